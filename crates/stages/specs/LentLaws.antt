-- Parts of slices and of strips that are lent on.
use Rattle.std.specs.Prelude.{◌≡◌, List, ℕ, ◌+◌, ◌-◌, ◌≤◌, length, take, drop}
use Rattle.std.proofs.Common.{arith, length-take, length-drop}
use Rattle.words.specs.BoundedLaws.{below-take, below-drop}
use Rattle.words.specs.Part.{length_part}
use Rattle.worksheet.specs.SharedList.{SharedList, shared_list}
use Rattle.stages.specs.Lent.{Residues, Masks}

-- the n elements from a on
pub residues_part : {m : ℕ} {s : SharedList} (a n : ℕ) → a + n ≤ m → Residues m s
    → Residues n (shared_list (take n (drop a s.s0)) (take n (drop a s.s1)))
residues_part {s = s} a n h r =
    record {
      long0 = length_part a n s.s0 (omega (arith, r.long0));
      long1 = length_part a n s.s1 (omega (arith, r.long1));
      below0 = below-take n (below-drop a r.below0);
      below1 = below-take n (below-drop a r.below1);
    }

-- lent as the part from a to a + n
pub residues_span : {m : ℕ} {s : SharedList} (a n : ℕ) → a + n ≤ m → Residues m s
    → Residues n (shared_list (take (a + n - a) (drop a s.s0)) (take (a + n - a) (drop a s.s1)))
residues_span a n h r = let e : a + n - a ≡ n = omega arith in rw e (residues_part a n h r)

-- all from a on
pub residues_rest : {m : ℕ} {s : SharedList} (a n : ℕ) → a + n ≡ m → Residues m s
    → Residues n (shared_list (take (length s.s0 - a) (drop a s.s0)) (take (length s.s1 - a) (drop a s.s1)))
residues_rest {s = s} a n h r =
    record {
      long0 = omega (arith, length-take (length s.s0 - a) (drop a s.s0), length-drop a s.s0, r.long0);
      long1 = omega (arith, length-take (length s.s1 - a) (drop a s.s1), length-drop a s.s1, r.long1);
      below0 = below-take (length s.s0 - a) (below-drop a r.below0);
      below1 = below-take (length s.s1 - a) (below-drop a r.below1);
    }

-- a strip from a on
pub masks_rest : {m : ℕ} {cs : List ℕ} (a n : ℕ) → a + n ≤ m → Masks m cs → Masks n (take (length cs - a) (drop a cs))
masks_rest {cs = cs} a n h r =
    record {
      enough = omega (arith, length-take (length cs - a) (drop a cs), length-drop a cs, r.enough);
      below = below-take (length cs - a) (below-drop a r.below);
    }
