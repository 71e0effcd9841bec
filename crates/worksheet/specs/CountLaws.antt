-- The number of strips that give a value at an entry, by recursion on the program.
use Rattle.std.specs.Prelude.{ℕ, zero, suc, ◌<◌, ◌≡◌, refl, Bool, true, false, List, [], ◌∷◌, ◌++◌, eqb, length, get_or}
use Rattle.std.specs.Prelude.{replicate}
use Rattle.std.proofs.Common.{sym, ap, ◌∙◌, add-one, arith}
use Rattle.std.proofs.lemmas.List.{replicate-append-replicate}
use Rattle.worksheet.specs.Prog.{Mask, word, coeff, bound, Prog, ret, draw, enter, ◌>>=◌, mask, loop, snoc, times}
use Rattle.worksheet.specs.ProgLaws.{bind_assoc}
use Rattle.worksheet.specs.Run.{run}
use Rattle.worksheet.specs.Sum.{sum, when}
use Rattle.worksheet.specs.SumLaws.{sum_cong, sum_swap, sum_zero}
use Rattle.worksheet.specs.Uses.{Uses, ret_u, word_u, coeff_u, enter_u}
use Rattle.worksheet.specs.Count.{hit, strips, tally}

-- how many ways there are to draw
unfoldable pub total : {A : Type 0} → Prog A → ℕ
total (ret a) = 1
total (draw m k) = sum (bound m) (λ x. total (k x))
total (enter v p) = total p

-- how many of them give v at entry i
unfoldable pub hits : {A : Type 0} → ℕ → ℕ → Prog A → ℕ
hits i v (ret a) = 0
hits i v (draw m k) = sum (bound m) (λ x. hits i v (k x))
hits zero v (enter w p) = when (eqb w v) (total p)
hits (suc i) v (enter w p) = hits i v p

pub hit-get_or : (i v : ℕ) (l : List ℕ) → i < length l → hit i v l ≡ when (eqb (get_or l i 0) v) 1
unfolding hit
hit-get_or i v [] h = absurd (omega arith)
hit-get_or zero v (w ∷ l) h = refl
hit-get_or (suc i) v (w ∷ l) h = hit-get_or i v l (omega arith)

pub tally_cong : (bs : List ℕ) {f g : List ℕ → ℕ} → ((xs : List ℕ) → f xs ≡ g xs) → tally bs f ≡ tally bs g
unfolding tally
tally_cong [] h = h []
tally_cong (b ∷ bs) h = sum_cong b (λ x lt. tally_cong bs (λ xs. h (x ∷ xs)))

pub tally_zero : (bs : List ℕ) → tally bs (λ xs. 0) ≡ 0
unfolding tally
tally_zero [] = refl
tally_zero (b ∷ bs) = sum_cong b (λ x lt. tally_zero bs) ∙ sum_zero b

tally-sum : (bs : List ℕ) (n : ℕ) (f : List ℕ → ℕ → ℕ)
    → tally bs (λ xs. sum n (λ y. f xs y)) ≡ sum n (λ y. tally bs (λ xs. f xs y))
unfolding tally
tally-sum [] n f = refl
tally-sum (b ∷ bs) n f =
    sum_cong b (λ x lt. tally-sum bs n (λ xs y. f (x ∷ xs) y)) ∙ sum_swap b n (λ x y. tally bs (λ xs. f (x ∷ xs) y))

tally_snoc : (bs : List ℕ) (b : ℕ) (f : List ℕ → ℕ)
    → tally (bs ++ b ∷ []) f ≡ tally bs (λ xs. sum b (λ y. f (xs ++ y ∷ [])))
unfolding tally
tally_snoc [] b f = refl
tally_snoc (a ∷ bs) b f = sum_cong a (λ x lt. tally_snoc bs b (λ xs. f (x ∷ xs)))

strips-total : {A : Type 0} {e w c : ℕ} {p : Prog A} → Uses e w c p → strips w c (λ ws cs. 1) ≡ total p
unfolding tally total
strips-total ret_u = refl
strips-total (word_u u) = sum_cong (bound word) (λ x lt. strips-total (u x))
strips-total (coeff_u {w = w} {c = c} u) =
    tally-sum (replicate w (bound word)) (bound coeff) (λ ws x. tally (replicate c (bound coeff)) (λ cs. 1))
    ∙ sum_cong (bound coeff) (λ x lt. strips-total (u x))
strips-total (enter_u u) = strips-total u

strips-when : {A : Type 0} {e w c : ℕ} {p : Prog A} → Uses e w c p → (b : Bool)
    → strips w c (λ ws cs. when b 1) ≡ when b (total p)
strips-when u true = strips-total u
strips-when {w = w} {c = c} u false =
    tally_cong (replicate w (bound word)) (λ ws. tally_zero (replicate c (bound coeff)))
    ∙ tally_zero (replicate w (bound word))

-- the strips that give v at entry i are as many as `hits` says
pub strips-hit : {A : Type 0} {e w c : ℕ} {p : Prog A} → Uses e w c p → (i v : ℕ)
    → strips w c (λ ws cs. hit i v (run p ws cs).entries) ≡ hits i v p
unfolding tally hits run hit
strips-hit ret_u i v = refl
strips-hit (word_u u) i v = sum_cong (bound word) (λ x lt. strips-hit (u x) i v)
strips-hit (coeff_u {w = w} {c = c} {k = k} u) i v =
    tally-sum (replicate w (bound word)) (bound coeff)
    (λ ws x. tally (replicate c (bound coeff)) (λ cs. hit i v (run (k x) ws cs).entries))
    ∙ sum_cong (bound coeff) (λ x lt. strips-hit (u x) i v)
strips-hit (enter_u {v = w} u) zero v = strips-when u (eqb w v)
strips-hit (enter_u u) (suc i) v = strips-hit u i v

-- a program that first draws n masks of one kind
pub hits_drawn : {A : Type 0} (i v : ℕ) (m : Mask) (n : ℕ) (k : List ℕ → Prog A)
    → hits i v (times n (λ j. mask m) >>= k) ≡ tally (replicate n (bound m)) (λ xs. hits i v (k xs))
unfolding times loop hits tally ◌>>=◌ mask
hits_drawn i v m zero k = refl
hits_drawn i v m (suc n) k =
    ap (hits i v) (bind_assoc (times n (λ j. mask m)) (λ ys. snoc (mask m) ys) k)
    ∙ hits_drawn i v m n (λ ys. snoc (mask m) ys >>= k)
    ∙ sym (tally_snoc (replicate n (bound m)) (bound m) (λ xs. hits i v (k xs)))
    ∙ ap (λ (bs : List ℕ). tally bs (λ xs. hits i v (k xs)))
    (replicate-append-replicate n 1 (bound m) ∙ ap (λ (l : ℕ). replicate l (bound m)) (add-one n))
