-- Planes and coefficients as masked compression leaves and takes them, and what a turn of its loops is lent.
use mathlib.Core.Path.{◌≡◌, sym, ap, ap₂, ◌∙◌}
use mathlib.Core.List.{List, ◌∷◌, [], ◌++◌}
use Prim.Native.Nat.{ℕ, ◌+◌, ◌-◌, ◌*◌, ◌<◌, ◌≤◌}
use native.Mathlib.Nat.{add_comm}
use native.Mathlib.Numerals.{add-one}
use native.Mathlib.Omega.{arith}
use lib.ListN.{length, get_or, set, take, drop, length-drop}
use Rattle.std.proofs.lemmas.List.{get_or-take, get_or-drop}
use Rattle.words.specs.Tab.{tab}
use Rattle.words.specs.TabLaws.{length-tab, get_or-tab, tab_cong, tab_of}
use Rattle.worksheet.specs.declared.Recorder.{Recorder}
use Rattle.worksheet.specs.Shares.{Shares}
use Rattle.worksheet.specs.Prog.{Prog}
use Rattle.worksheet.specs.Sharing.{shares, none}
use Rattle.worksheet.specs.SharedList.{SharedList, shared_list, shared_at}
use Rattle.worksheet.specs.Zip.{zip}
use Rattle.worksheet.specs.SharedListLaws.{zip_zero, zip-set}
use Rattle.masked_compression.specs.Compression.{masked_compress}
use Rattle.masked_compression.specs.CompressionReads.{masked_compress_cong}
use Rattle.words.specs.Part.{length_span}
use Rattle.stages.specs.Layout.{part_of}
use Rattle.stages.specs.Lent.{Residues, CompressInput}
use Rattle.stages.specs.LentLaws.{residues_span}
use Rattle.stages.proofs.Laid.{shared_at_part}
use Rattle.stages.proofs.StoredRun.{Written, OnWords, fits0, fits1, fits_words, length_rest}

-- n elements from a on, copied out of both shares
pub copied : (a n : ℕ) (s : SharedList) {l m : List ℕ} → l ≡ take n (drop a s.s0) → m ≡ take n (drop a s.s1)
    → zip n (shared_list l m) ≡ drop a (zip (n + a) s)
unfolding zip
copied a n s e0 e1 =
    let at : (l : List ℕ) (i : ℕ) → i < n → get_or (take n (drop a l)) i 0 ≡ get_or l (a + i) 0 =
    λ l i h. get_or-take n (drop a l) i 0 h ∙ get_or-drop a l i 0 in
    let f = tab (n + a) (shared_at s) in
    rw (e0, e1)
    (tab_cong n (λ i h. ap₂ shares (at s.s0 i h) (at s.s1 i h))
    ∙ sym (tab_of none (drop a f) n (length-drop a f ∙ omega (arith, length-tab (n + a) (shared_at s)))
    (λ i h. get_or-drop a f i none ∙ get_or-tab (n + a) (shared_at s) (a + i) none (omega arith))))

-- group g of a polynomial, as a part that ends at 64 g + 64
pub group_part : (d g : ℕ) (l m : List ℕ)
    → (let n = 64 * g + 64 - 64 * g in
    masked_compress d (shared_at (shared_list (take n (drop (64 * g) l)) (take n (drop (64 * g) m)))))
    ≡ masked_compress d (λ i. shared_at (shared_list l m) (64 * g + i))
group_part d g l m =
    let e : 64 * g + 64 - 64 * g ≡ 64 = omega arith in
    rw e (masked_compress_cong d (shared_at_part (64 * g) 64 l m))

-- turn i of k is lent part i: n coefficients, w mask words, and m words for the planes
pub compress_part : {A : Type 0} {g : SharedList → A} {p : ℕ → Prog A} {d e w m k i : ℕ} {r₀ r : Recorder}
    {f : SharedList} {ws l l' : List ℕ} (n : ℕ) → Written g (OnWords p w k r₀ ws) m k l l' r i → i < k
    → d ≤ 11 → Residues e f → n * i + n ≤ e
    → CompressInput d n w m
    (shared_list (take (n * i + n - n * i) (drop (n * i) f.s0)) (take (n * i + n - n * i) (drop (n * i) f.s1)))
    (take (length ws - w * i) (drop (w * i) ws))
    (shared_list (take (m * i + m - m * i) (drop (m * i) l)) (take (m * i + m - m * i) (drop (m * i) l')))
compress_part {w = w} {m = m} {i = i} {ws = ws} {l = l} {l' = l'} n s h depth c fits =
    record {
      depth = depth;
      input = residues_span (n * i) n fits c;
      words = length_rest (w * i) w ws (fits_words s.ran h);
      out =
          record {
            long0 = length_span (m * i) m l (fits0 s h);
            long1 = length_span (m * i) m l' (fits1 s h);
          };
    }

-- group j of polynomial i
pub group_of : (d i j : ℕ) (z : SharedList) → j < 4
    → masked_compress d (λ t. shared_at z (64 * (4 * i + j) + t))
    ≡ masked_compress d (λ t. shared_at (part_of 256 z i) (64 * j + t))
group_of d i j z h =
    masked_compress_cong d (λ t l.
    let e : 64 * (4 * i + j) + t ≡ 256 * i + (64 * j + t) = omega arith in
    ap (shared_at z) e ∙ sym (shared_at_part (256 * i) 256 z.s0 z.s1 (64 * j + t) (omega arith)))
