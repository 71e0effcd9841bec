-- t holds H(ek), with which h is compared.
use mathlib.Core.Path.{◌≡◌, ap, ap₂, ◌∙◌}
use mathlib.Core.List.{List}
use Prim.Native.Nat.{ℕ, ◌+◌, ◌-◌}
use lib.ListN.{take, drop}
use Rattle.words.specs.Part.{part_span}
use Rattle.hash_functions.specs.Functions.{H}
use Rattle.refusals.specs.Same.{same}
use Rattle.split_key_import.proofs.hash_matches.Goals as goal

-- a part of dk by the lengths that were counted, n to the public key and m of it
ek-by : (dk : List ℕ) {n m a b : ℕ} → n ≡ a → m ≡ b → take (n + m - n) (drop n dk) ≡ take b (drop a dk)
ek-by dk {n} {m} e f = part_span n m dk ∙ ap₂ (λ (x y : ℕ). take y (drop x dk)) e f

h-by : (dk : List ℕ) {n m a b : ℕ} → n ≡ a → m ≡ b
    → take (n + m + 32 - (n + m)) (drop (n + m) dk) ≡ take 32 (drop (a + b) dk)
h-by dk {n} {m} e f = part_span (n + m) 32 dk ∙ ap₂ (λ (x y : ℕ). take 32 (drop (x + y) dk)) e f

pub returns : goal.returns
returns c =
    let n = c.vector_bytes-n.ensures in
    let m = c.ek_bytes.ensures in
    let dk = c.args.dk.now in
    c.same.ensures ∙ ap₂ same (h-by dk n m) (c.hash_h.ensures ∙ ap H (ek-by dk n m))
