-- What a program does on given strips.
use Rattle.std.specs.Prelude.{ℕ, List, [], ◌∷◌, get_or, drop}
use Rattle.worksheet.specs.Prog.{word, coeff, Prog, ret, draw, enter}

-- the value, the worksheet, and what is left of the strip of words and of the strip of coefficients
pub record Run (A : Type 0) : Type 0 where
  pub value : A
  pub entries : List ℕ
  pub words : List ℕ
  pub coeffs : List ℕ

-- v is entered first
abbrev pub entered : {A : Type 0} → ℕ → Run A → Run A
entered v o = record { value = o.value; entries = v ∷ o.entries; words = o.words; coeffs = o.coeffs }

unfoldable pub run : {A : Type 0} → Prog A → List ℕ → List ℕ → Run A
run (ret a) ws cs = record { value = a; entries = []; words = ws; coeffs = cs }
run (draw word k) ws cs = run (k (get_or ws 0 0)) (drop 1 ws) cs
run (draw coeff k) ws cs = run (k (get_or cs 0 0)) ws (drop 1 cs)
run (enter v p) ws cs = entered v (run p ws cs)
