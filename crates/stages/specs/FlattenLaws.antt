-- Lists put one behind the other are FIPS 203's vectors written out; where all have one length each is found again.
use Rattle.std.specs.Prelude.{◌≡◌, refl, ℕ, zero, suc, ◌*◌, ◌<◌, length, take, drop}
use Rattle.std.proofs.Common.{sym, ap, ap₂, ◌∙◌, take_at, drop_at}
use mathlib.Core.List.{List, [], ◌∷◌, ◌++◌, flatten, append-nil, append_assoc}
use Rattle.words.specs.Tab.{tab}
use Rattle.vectors.specs.Vector.{parts, concat}
use Rattle.vectors.specs.VectorLaws.{Each, length-concat, parts-concat}

pub flatten_append : {A : Type 0} (k l : List (List A)) → flatten (k ++ l) ≡ flatten k ++ flatten l
unfolding flatten
flatten_append [] l = refl
flatten_append {A} (x ∷ k) l =
    ap (λ (m : List A). x ++ m) (flatten_append k l) ∙ sym (append_assoc x (flatten k) (flatten l))

pub flatten-tab : (k : ℕ) (f : ℕ → List ℕ) → flatten (tab k f) ≡ concat k f
unfolding flatten tab concat
flatten-tab zero f = refl
flatten-tab (suc k) f =
    flatten_append (tab k f) (f k ∷ [])
    ∙ ap₂ (λ (x y : List ℕ). x ++ y) (flatten-tab k f) (append-nil (f k))

module _ {n k : ℕ} where
  pub length-flatten : {f : ℕ → List ℕ} → Each n k f → length (flatten (tab k f)) ≡ n * k
  length-flatten {f} e = ap length (flatten-tab k f) ∙ length-concat e

  -- list i again
  parts-flatten : {f : ℕ → List ℕ} → Each n k f → (i : ℕ) → i < k → parts n (flatten (tab k f)) i ≡ f i
  parts-flatten {f} e i h = ap (λ (l : List ℕ). parts n l i) (flatten-tab k f) ∙ parts-concat e i h

  -- so lists that are equal written out are equal one by one
  pub flatten_cancel : {f g : ℕ → List ℕ} → Each n k f → Each n k g → flatten (tab k f) ≡ flatten (tab k g)
      → (i : ℕ) → i < k → f i ≡ g i
  flatten_cancel a b e i h =
      sym (parts-flatten a i h) ∙ ap (λ (l : List ℕ). parts n l i) e ∙ parts-flatten b i h

module _ (a b c d : List ℕ) (e : length a ≡ length b) (h : a ++ c ≡ b ++ d) where
  pub append_cancel_front : a ≡ b
  append_cancel_front = sym (take_at a c (length a) refl) ∙ ap (take (length a)) h ∙ take_at b d (length a) (sym e)

  pub append_cancel_back : c ≡ d
  append_cancel_back = sym (drop_at a c (length a) refl) ∙ ap (drop (length a)) h ∙ drop_at b d (length a) (sym e)
