-- Refreshing changes shares, and not what they join to: what a mask adds to the first share it takes from the second.
use Rattle.std.specs.Prelude.{◌≡◌, List, ◌++◌, ℕ, ◌+◌, ◌%◌, length, get_or}
use Rattle.std.proofs.Common.{sym, ap, ap₂, ◌∙◌, arith, ext_get_or}
use Rattle.words.specs.Word.{xor}
use Rattle.words.specs.WordLaws.{xor_swap, xor_same, xor_zero}
use Rattle.words.specs.LittleEndian.{words_to_bytes}
use Rattle.words.specs.Residue.{q}
use Rattle.words.specs.TabLaws.{get_or-tab, tab_cong}
use Rattle.codec.specs.Bytes.{byte_encode}
use Rattle.ring.specs.Polynomial.{minus, add, sub}
use Rattle.ring.specs.Sum.{length-add, length-sub, get_or_add, get_or_sub}
use Rattle.worksheet.specs.SharedList.{SharedList, joined_list}
use Rattle.parameters.specs.declared.Parameters.{Parameters}
use Rattle.vectors.specs.Vector.{parts, concat}
use Rattle.split_key.specs.SplitKey.{SplitKey}
use Rattle.split_key.specs.Sized.{RefreshSized}
use Rattle.split_key.specs.Refresh.{xor_words, fresh_words, fresh_key}
use Rattle.split_key.specs.RefreshLaws.{length-xor_words}
use Rattle.meaning.specs.JoinedDk.{joined_dk}

mask_cancels : (x y m : ℕ) → ((x + m) % q + minus y m) % q ≡ (x + y) % q
mask_cancels x y m = omega arith

joined_coeffs_fresh : (s0 s1 m : List ℕ) → length s0 ≡ length m → length s1 ≡ length m
    → add (add s0 m) (sub s1 m) ≡ add s0 s1
joined_coeffs_fresh s0 s1 m e₀ e₁ =
    ext_get_or 0 _ _ (length-add (add s0 m) (sub s1 m) ∙ length-add s0 m ∙ sym (length-add s0 s1))
    (λ i h.
    get_or_add (add s0 m) (sub s1 m) i (length-add s0 m ∙ e₀ ∙ sym (length-sub s1 m ∙ e₁))
    ∙ ap₂ (λ (x y : ℕ). (x + y) % q) (get_or_add s0 m i e₀) (get_or_sub s1 m i e₁)
    ∙ mask_cancels (get_or s0 i 0) (get_or s1 i 0) (get_or m i 0)
    ∙ sym (get_or_add s0 s1 i (e₀ ∙ sym e₁)))

word_cancels : (x y m : ℕ) → xor (xor x m) (xor y m) ≡ xor x y
word_cancels x y m = xor_swap x m y m ∙ ap (xor (xor x y)) (xor_same m) ∙ xor_zero (xor x y)

joined_list_fresh : (z : SharedList) (m : List ℕ) → length z.s1 ≡ length z.s0
    → joined_list (fresh_words z m) ≡ joined_list z
unfolding joined_list xor_words
joined_list_fresh z m e =
    rw (length-xor_words z.s0 m)
    (tab_cong (length z.s0) (λ i h.
    ap₂ xor (get_or-tab (length z.s0) _ i 0 h) (get_or-tab (length z.s1) _ i 0 (omega arith))
    ∙ word_cancels (get_or z.s0 i 0) (get_or z.s1 i 0) (get_or m i 0)))

pub joined_dk_fresh : (p : Parameters) (key : SplitKey) {n : ℕ} {mask_coeffs mask_words : List ℕ}
    → RefreshSized n mask_coeffs mask_words key.s key.z
    → joined_dk p (fresh_key key mask_coeffs mask_words) ≡ joined_dk p key
unfolding joined_dk fresh_key
joined_dk_fresh p key {mask_coeffs = mask_coeffs} {mask_words = mask_words} l =
    ap₂ (λ (s z : List ℕ). concat p.k (λ i. byte_encode 12 (parts 256 s i)) ++ (key.public ++ words_to_bytes 8 z))
    (joined_coeffs_fresh key.s.s0 key.s.s1 mask_coeffs (l.s0 ∙ sym l.mask_coeffs)
    (l.s1 ∙ sym l.mask_coeffs))
    (joined_list_fresh key.z mask_words (l.z1 ∙ sym l.z0))
