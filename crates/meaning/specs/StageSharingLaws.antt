-- Shares element by element: of polynomials, of the bits of shared words, and of words put one behind the other.
use Rattle.std.specs.Prelude.{◌≡◌, refl, ℕ, suc, ◌+◌, ◌*◌, ◌/◌, ◌%◌, ◌<◌, length, get_or}
use Rattle.std.proofs.Common.{sym, ap, ap₂, ◌∙◌, arith, length-append, get_or-append-add}
use mathlib.Core.List.{List, [], ◌∷◌, ◌++◌, flatten}
use Rattle.std.proofs.Math.ListN.{get_or-append}
use Rattle.words.specs.Residue.{q}
use Rattle.words.specs.LittleEndianLaws.{length-words_to_bytes}
use Rattle.words.specs.Tab.{tab}
use Rattle.words.specs.TabLaws.{length-tab, get_or-tab, tab_of}
use Rattle.words.specs.Digit.{digit}
use Rattle.words.specs.DigitLaws.{xor-digit}
use Rattle.codec.specs.Bytes.{bits_of}
use Rattle.ring.specs.Polynomial.{add}
use Rattle.ring.specs.Sum.{length-add, get_or_add, get_or_add_lt}
use Rattle.worksheet.specs.Shares.{Shares}
use Rattle.worksheet.specs.Sharing.{joined}
use Rattle.worksheet.specs.SharingLaws.{Sharing}
use Rattle.worksheet.specs.SharedList.{SharedList, unzip}
use Rattle.worksheet.specs.SharedListLaws.{shared_at-unzip}
use Rattle.worksheet.specs.CoeffSharing.{CoeffSharing}
use Rattle.worksheet.specs.Turns.{Each}
use Rattle.worksheet.specs.Flatten.{each_append}
use Rattle.stages.specs.Moves.{string_bit}
use Rattle.meaning.specs.WordBits.{bits_of-words_to_bytes, get_or-bits_of}
use Rattle.masked_fips202.specs.MaskedSpongeValue.{WordSharing}
use Rattle.meaning.specs.StageSharing.{PolySharing, BytesSharing, SharingList}

-- ---- polynomials

pub poly_sharing_at : {f : List ℕ} {s : SharedList} → PolySharing f s
    → (i : ℕ) → (get_or s.s0 i 0 + get_or s.s1 i 0) % q ≡ get_or f i 0
poly_sharing_at {s = s} a i =
    sym (get_or_add s.s0 s.s1 i (a.long0 ∙ sym a.long1)) ∙ ap (λ (l : List ℕ). get_or l i 0) a.sums

pub poly_sharing_length : {f : List ℕ} {s : SharedList} → PolySharing f s → length f ≡ 256
poly_sharing_length {s = s} a = ap length (sym a.sums) ∙ length-add s.s0 s.s1 ∙ a.long0

pub poly_sharing_unzip : {z : ℕ → Shares} {x : ℕ → ℕ} → ((i : ℕ) → i < 256 → CoeffSharing q (x i) (z i))
    → PolySharing (tab 256 x) (unzip 256 z)
unfolding unzip
poly_sharing_unzip {z} {x} h =
    let a = tab 256 (λ i. (z i).s0) in
    let b = tab 256 (λ i. (z i).s1) in
    let e : length a ≡ 256 = length-tab 256 (λ i. (z i).s0) in
    record {
      long0 = e;
      long1 = length-tab 256 (λ i. (z i).s1);
      sums =
          tab_of 0 (add a b) 256 (length-add a b ∙ e)
          (λ i l.
          get_or_add_lt a b i (omega arith)
          ∙ ap₂ (λ (m n : ℕ). (m + n) % q) (get_or-tab 256 (λ i. (z i).s0) i 0 l) (get_or-tab 256 (λ i. (z i).s1) i 0 l)
          ∙ (h i l).sums);
    }

-- ---- words and bytes

pub bytes_sharing_length : {n : ℕ} {b : List ℕ} {s : SharedList} → BytesSharing n b s → length b ≡ 8 * n
bytes_sharing_length a =
    ap length (sym a.bytes) ∙ length-words_to_bytes 8 a.words ∙ ap (λ (k : ℕ). 8 * k) a.sharing.long

-- a bit of the words is that bit of their bytes
pub joined-string_bit : {n : ℕ} {b : List ℕ} {s : SharedList} → BytesSharing n b s
    → (i : ℕ) → i / 64 < n → joined (string_bit s i) ≡ get_or (bits_of 8 b) i 0
joined-string_bit {s = s} a i h =
    xor-digit (i % 64) (get_or s.s0 (i / 64) 0) (get_or s.s1 (i / 64) 0)
    ∙ ap (digit (i % 64)) (a.sharing.at (i / 64) h).joins
    ∙ sym (get_or-bits_of 64 a.words i (omega arith))
    ∙ ap (λ (m : List ℕ). get_or m i 0) (sym (bits_of-words_to_bytes 8 a.words) ∙ ap (bits_of 8) a.bytes)

-- ---- lists of sharings

pub sharing_list_tab : {n : ℕ} {x : ℕ → ℕ} {w : List Shares} → Each (λ j. Sharing 64 (x j)) n w
    → SharingList (tab n x) w
sharing_list_tab {n} {x} r =
    let e = length-tab n x in
    record {
      each = record {
        long = r.long ∙ sym e;
        at = λ d j h. let k : j < n = omega arith in rw (get_or-tab n x j 0 k) (r.at d j k);
      };
    }

sharing_list_nil : SharingList [] []
sharing_list_nil = record { each = record { long = refl; at = λ d j h. absurd (omega arith) } }

pub sharing_list_append : {l m : List ℕ} {v w : List Shares} → SharingList l v → SharingList m w
    → SharingList (l ++ m) (v ++ w)
sharing_list_append {l} {m} {v} {w} r s =
    record {
      each = rw (length-append l m)
          (each_append {xs = v} {ys = w}
          (record { long = r.each.long; at = λ d j h. rw (get_or-append l m 0 j h) (r.each.at d j h) })
          (record { long = s.each.long; at = λ d j h. rw (get_or-append-add l m j 0) (s.each.at d j h) }));
    }

sharing_list_lists : (l : List (List ℕ)) (w : List (List Shares)) → length w ≡ length l
    → ((i : ℕ) → i < length l → SharingList (get_or l i []) (get_or w i [])) → SharingList (flatten l) (flatten w)
unfolding flatten
sharing_list_lists [] [] e h = sharing_list_nil
sharing_list_lists [] (y ∷ w) e h = absurd (omega arith)
sharing_list_lists (x ∷ l) [] e h = absurd (omega arith)
sharing_list_lists (x ∷ l) (y ∷ w) e h =
    sharing_list_append (h 0 (omega arith)) (sharing_list_lists l w (omega arith) (λ i g. h (suc i) (omega arith)))

pub sharing_list_flatten : (k : ℕ) (f : ℕ → List ℕ) {w : List (List Shares)} → Each (λ i. SharingList (f i)) k w
    → SharingList (flatten (tab k f)) (flatten w)
sharing_list_flatten k f {w} r =
    let e = length-tab k f in
    sharing_list_lists (tab k f) w (r.long ∙ sym e)
    (λ i h. let g : i < k = omega arith in rw (get_or-tab k f i [] g) (r.at [] i g))

-- n of them as two lists
pub word_sharing_unzip : (n : ℕ) {l : List ℕ} {w : List Shares} (d : Shares) → length l ≡ n → SharingList l w
    → WordSharing n l (unzip n (λ i. get_or w i d))
unfolding unzip
word_sharing_unzip n {w = w} d e a =
    record {
      long = e;
      long0 = length-tab n _;
      at = λ i h. rw (shared_at-unzip n (λ i. get_or w i d) i h) (a.each.at d i (omega arith));
    }
