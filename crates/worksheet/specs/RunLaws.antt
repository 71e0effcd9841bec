-- A program in two parts runs the first, and then the second on what the first leaves.
use Rattle.std.specs.Prelude.{ℕ, ◌≡◌, refl, List, ◌++◌, get_or, drop}
use Rattle.std.proofs.Common.{ap}
use Rattle.worksheet.specs.Prog.{word, coeff, Prog, ret, draw, enter, ◌>>=◌}
use Rattle.worksheet.specs.Run.{Run, run, entered}

-- f, run on what o leaves
abbrev pub followed : {A B : Type 0} → Run A → (A → Prog B) → Run B
followed o f =
    let q = run (f o.value) o.words o.coeffs in
    record { value = q.value; entries = o.entries ++ q.entries; words = q.words; coeffs = q.coeffs }

pub run_bind : {A B : Type 0} (p : Prog A) (f : A → Prog B) (ws cs : List ℕ)
    → run (p >>= f) ws cs ≡ followed (run p ws cs) f
unfolding run ◌>>=◌
run_bind (ret a) f ws cs = refl
run_bind (draw word k) f ws cs = run_bind (k (get_or ws 0 0)) f (drop 1 ws) cs
run_bind (draw coeff k) f ws cs = run_bind (k (get_or cs 0 0)) f ws (drop 1 cs)
run_bind (enter v p) f ws cs = ap (entered v) (run_bind p f ws cs)
