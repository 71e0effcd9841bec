-- What two shares of a list join to: part by part, word by word in bytes, and beside zeros.
use Rattle.std.specs.Prelude.{◌≡◌, refl, List, ◌++◌, ℕ, ◌+◌, ◌*◌, ◌/◌, ◌%◌, ◌^◌, length, get_or, replicate}
use Rattle.std.proofs.Common.{sym, ap, ap₂, ◌∙◌, arith, length-append, get_or-append-add}
use Rattle.std.proofs.lemmas.List.{get_or-replicate}
use Rattle.std.proofs.Math.ListN.{get_or-append}
use Rattle.words.specs.Word.{xor}
use Rattle.words.specs.WordLaws.{xor_zero}
use Rattle.words.specs.LittleEndian.{words_to_bytes}
use Rattle.words.specs.LittleEndianLaws.{length-words_to_bytes, get_or-words_to_bytes}
use Rattle.words.specs.Tab.{tab}
use Rattle.words.specs.TabLaws.{length-tab, get_or-tab, tab_of, tab_cong, tab_add}
use Rattle.worksheet.specs.Sharing.{joined}
use Rattle.worksheet.specs.SharedList.{shared_list, shared_at, joined_list}
use Rattle.masked_fips202.specs.XorBytes.{byte_xor}

pub joined_append : (a b c d : List ℕ) → length a ≡ length b
    → joined_list (shared_list (a ++ c) (b ++ d)) ≡ joined_list (shared_list a b) ++ joined_list (shared_list c d)
unfolding joined_list
joined_append a b c d e =
    let f : ℕ → ℕ = λ i. joined (shared_at (shared_list (a ++ c) (b ++ d)) i) in
    ap (λ (n : ℕ). tab n f) (length-append a c)
    ∙ tab_add (length a) (length c) f
    ∙ ap₂ (λ (x y : List ℕ). x ++ y)
    (tab_cong (length a) (λ i h. ap₂ xor (get_or-append a c 0 i h) (get_or-append b d 0 i (omega arith))))
    (tab_cong (length c) (λ i h.
    ap₂ xor (get_or-append-add a c i 0) (ap (λ (n : ℕ). get_or (b ++ d) (n + i) 0) e ∙ get_or-append-add b d i 0)))

pub joined_bytes : (x y : List ℕ)
    → joined_list (shared_list (words_to_bytes 8 x) (words_to_bytes 8 y))
    ≡ words_to_bytes 8 (joined_list (shared_list x y))
unfolding joined_list
joined_bytes x y =
    let f : ℕ → ℕ = λ i. joined (shared_at (shared_list x y) i) in
    let l = tab (length x) f in
    let long = length-words_to_bytes 8 x in
    sym
    (tab_of 0 (words_to_bytes 8 l) (length (words_to_bytes 8 x))
    (length-words_to_bytes 8 l ∙ ap (λ (n : ℕ). 8 * n) (length-tab (length x) f) ∙ sym long)
    (λ i h.
    get_or-words_to_bytes 8 l i (omega arith)
    ∙ ap (λ (w : ℕ). w / 256 ^ (i % 8) % 256) (get_or-tab (length x) f (i / 8) 0 (omega arith))
    ∙ sym (byte_xor (get_or x (i / 8) 0) (get_or y (i / 8) 0) (i % 8) (omega arith))
    ∙ sym (ap₂ xor (get_or-words_to_bytes 8 x i (omega arith)) (get_or-words_to_bytes 8 y i (omega arith)))))

pub joined_zeros : (l : List ℕ) → joined_list (shared_list l (replicate (length l) 0)) ≡ l
unfolding joined_list
joined_zeros l =
    sym
    (tab_of 0 l (length l) refl
    (λ i h. sym (ap (xor (get_or l i 0)) (get_or-replicate {A = ℕ} (length l) i 0 0 h) ∙ xor_zero (get_or l i 0))))
