-- Output given out block by block on two shares. What a state gives, its bytes or its lanes, is a parameter: one
-- invariant and one set of laws serve both.
use mathlib.Core.Path.{◌≡◌, refl, sym, ap, ◌∙◌}
use mathlib.Core.List.{List, [], ◌++◌}
use Prim.Native.Nat.{ℕ, ◌+◌, ◌-◌, ◌*◌, ◌%◌, ◌<◌, ◌≤◌}
use native.Mathlib.Nat.{le_refl, zero-mul, suc-mul}
use native.Mathlib.Numerals.{add-one}
use native.Mathlib.Omega.{arith}
use lib.ListN.{length, take, drop}
use Rattle.words.specs.Part.{length_part}
use Rattle.words.specs.Tab.{tab}
use Rattle.worksheet.specs.declared.Recorder.{Recorder}
use Rattle.worksheet.specs.declared.Shared.{Shared}
use Rattle.worksheet.specs.Prog.{Prog, loop}
use Rattle.worksheet.specs.Ran.{Ran}
use Rattle.worksheet.specs.RanLoops.{loop_start, loop_turn}
use Rattle.worksheet.specs.SharedList.{SharedList}
use Rattle.masked_keccak.specs.MaskedKeccak.{masked_keccak_p, keccak_p_words}
use Rattle.masked_sponge.specs.Lent.{PartLent}
use Rattle.masked_sponge.specs.MaskedSponge.{further_blocks}
use Rattle.masked_sponge.specs.MaskedSteps.{given}
use Rattle.masked_sponge.specs.GivenOut.{states_of, GivesOut}
use Rattle.masked_sponge.proofs.MaskedBlocks.{block_within, rest_within}
use Rattle.fips202.proofs.Output.{Reading, output_of, Output, output_start, output_part, output_end}

-- a whole block lies within n elements
pub further_within : (per n i : ℕ) → i < further_blocks per n → i * per + per ≤ n
further_within per n i h = omega (arith, block_within per (n - 1) i h)

module _ {A : Type 0} where
  -- a part that is lent is as long as it says
  part_long : {most a e : ℕ} {out : List A} → PartLent most a e out → length (take (e - a) (drop a out)) ≡ e - a
  part_long {a = a} {e} {out} l = length_part a (e - a) out (omega (arith, l.order, l.within))

  pub given_part : (read : Reading A) (s : List ℕ) {most a e : ℕ} {out p : List A} → PartLent most a e out
      → p ≡ tab (length (take (e - a) (drop a out))) (read s)
      → take a out ++ (p ++ drop (e - a) (drop a out)) ≡ given read s a e out
  given_part read s l w = rw (w, part_long l)

  -- the next elements, up to e, are given by block q's state t
  output-given : {read : Reading A} {per n e : ℕ} {s : ℕ → List ℕ} {t : List ℕ} {out out' : List A} (q : ℕ)
      → Output read per n s (q * per) out → t ≡ s q
      → PartLent per (q * per) e out → out' ≡ given read t (q * per) e out → Output read per n s e out'
  output-given {read} {t = t} q f r l w =
      rw w
      (output_part q f refl r l.order (omega (arith, l.within, f.filled.long)) l.short
      (ap (λ (m : ℕ). tab m (read t)) (sym (part_long l))))

  -- i blocks are given out, and the state is at s
  pub record Blocks (read : Reading A) (per n : ℕ) (s₀ : SharedList) (r₀ : Recorder) (ws cs : List ℕ) (i a : ℕ)
      (s : SharedList) (r : Recorder) (out0 out1 : List A) : Type 0 where
    pub ran : Ran (loop i (λ _. masked_keccak_p) s₀) r₀ ws cs s r (drop (keccak_p_words * i) ws) cs
    pub given0 : Output read per n (λ q. (states_of s₀ ws cs q).s0) a out0
    pub given1 : Output read per n (λ q. (states_of s₀ ws cs q).s1) a out1

  -- the same for any strip of coefficients, which is not drawn from
  pub record Squeezing (read : Reading A) (per n : ℕ) (s₀ : SharedList) (r₀ : Recorder) (ws : List ℕ) (i : ℕ)
      (s : SharedList) (r : Recorder) (out0 out1 : List A) : Type 0 where
    pub within : i ≤ further_blocks per n
    pub long0 : length out0 ≡ n
    pub long1 : length out1 ≡ n
    pub blocks : (cs : List ℕ) → Blocks read per n s₀ r₀ ws cs i (i * per) s r out0 out1

  -- all n elements are given out
  record Squeezed (read : Reading A) (per n : ℕ) (s₀ : SharedList) (r₀ : Recorder) (ws cs : List ℕ) (s : SharedList)
      (r : Recorder) (out0 out1 : List A) : Type 0 where
    pub ran :
        Ran (loop (further_blocks per n) (λ _. masked_keccak_p) s₀) r₀ ws cs s r
        (drop (keccak_p_words * further_blocks per n) ws) cs
    pub all0 : out0 ≡ tab n (output_of read per (λ q. (states_of s₀ ws cs q).s0))
    pub all1 : out1 ≡ tab n (output_of read per (λ q. (states_of s₀ ws cs q).s1))

  pub squeezing_start : {read : Reading A} {per n : ℕ} {s : SharedList} {r : Recorder} {ws : List ℕ}
      {out0 out1 : List A} → length out0 ≡ n → length out1 ≡ n → Squeezing read per n s r ws 0 s r out0 out1
  squeezing_start {per = per} e0 e1 =
      record {
        within = omega arith;
        long0 = e0;
        long1 = e1;
        blocks = λ cs.
            record {
              ran = loop_start _ _;
              given0 = rw (zero-mul per) (output_start e0);
              given1 = rw (zero-mul per) (output_start e1);
            };
      }

  -- a whole block is lent as a part of an output of n elements
  pub block_lent : {most per n i : ℕ} → per ≤ most → i < further_blocks per n → (out : List A) → length out ≡ n
      → PartLent most (i * per) (i * per + per) out
  block_lent {per = per} {n} {i} f h out e =
      let g = further_within per n i h in
      record { order = omega arith; within = omega arith; short = omega arith }

  -- so is what stands behind the whole blocks
  pub rest_lent : {most per n m : ℕ} → per ≤ most → 0 < per → m ≡ further_blocks per n → (out : List A) → length out ≡ n
      → PartLent most (m * per) n out
  rest_lent {per = per} {n} {m} f p h out e =
      let g = rest_within per n m p h in
      record { order = g.0; within = omega arith; short = omega arith }

  module _ {read : Reading A} {per n : ℕ} {s₀ : SharedList} {r₀ : Recorder} {ws : List ℕ} {i : ℕ} {s : SharedList}
      {r : Recorder} {out0 out1 out0' out1' : List A}
      (a : Squeezing read per n s₀ r₀ ws i s r out0 out1) where
    -- the state at s gives the elements up to e
    more : (e : ℕ) → ((out : List A) → length out ≡ n → PartLent per (i * per) e out)
        → out0' ≡ given read s.s0 (i * per) e out0 → out1' ≡ given read s.s1 (i * per) e out1
        → (cs : List ℕ) → Blocks read per n s₀ r₀ ws cs i e s r out0' out1'
    more e l w0 w1 cs =
        let b = a.blocks cs in
        let v = sym b.ran.value in
        record {
          ran = b.ran;
          given0 = output-given i b.given0 (ap (λ (z : SharedList). z.s0) v) (l out0 a.long0) w0;
          given1 = output-given i b.given1 (ap (λ (z : SharedList). z.s1) v) (l out1 a.long1) w1;
        }

    pub squeezing_turn : {t : SharedList} {r' : Recorder} → i < further_blocks per n
        → out0' ≡ given read s.s0 (i * per) (i * per + per) out0
        → out1' ≡ given read s.s1 (i * per) (i * per + per) out1
        → ((cs : List ℕ)
        → Ran (masked_keccak_p s) r (drop (keccak_p_words * i) ws) cs t r'
        (drop (keccak_p_words * i + keccak_p_words) ws) cs)
        → Squeezing read per n s₀ r₀ ws (i + 1) t r' out0' out1'
    squeezing_turn {t} {r'} h w0 w1 p =
        let b = more (i * per + per) (block_lent (le_refl per) h) w0 w1 in
        let next : (i + 1) * per ≡ i * per + per = ap (λ (k : ℕ). k * per) (add-one i) ∙ suc-mul i per in
        let e : keccak_p_words * i + keccak_p_words ≡ keccak_p_words * (i + 1) = omega arith in
        record {
          within = omega arith;
          long0 = (b []).given0.filled.long;
          long1 = (b []).given1.filled.long;
          blocks = λ cs.
              rw next
              record {
                ran = loop_turn _ _ i (b cs).ran (rw e at (p cs));
                given0 = (b cs).given0;
                given1 = (b cs).given1;
              };
        }

    -- behind the last permutation, m of them, the state gives the rest
    squeezed : {m : ℕ} → 0 < per → m ≡ further_blocks per n → m ≤ i
        → out0' ≡ given read s.s0 (m * per) n out0 → out1' ≡ given read s.s1 (m * per) n out1
        → (cs : List ℕ) → Squeezed read per n s₀ r₀ ws cs s r out0' out1'
    squeezed {m} h e f w0 w1 cs =
        let d : m ≡ i = omega (arith, a.within) in
        let b = more n (rest_lent (le_refl per) h (omega arith)) (rw d at w0) (rw d at w1) cs in
        let k : i ≡ further_blocks per n = omega arith in
        record {
          ran = rw k at b.ran;
          all0 = output_end b.given0 (le_refl n);
          all1 = output_end b.given1 (le_refl n);
        }

    -- so the definition for these elements has run
    pub squeezed_ran : (in_lane : ℕ) {m : ℕ} {p : ℕ → ℕ → SharedList → Prog (Shared (List A))} → GivesOut in_lane read p
        → 0 < per → per % in_lane ≡ 0 → m ≡ further_blocks per n → m ≤ i
        → out0' ≡ given read s.s0 (m * per) n out0 → out1' ≡ given read s.s1 (m * per) n out1 → (cs : List ℕ)
        → Ran (p per n s₀) r₀ ws cs (record { s0 = out0'; s1 = out1' }) r
        (drop (keccak_p_words * further_blocks per n) ws) cs
    squeezed_ran in_lane g h d e f w0 w1 cs =
        let b = squeezed h e f w0 w1 cs in
        rw (b.all0, b.all1) (g per n s₀ s r₀ r ws cs _ h d b.ran)
