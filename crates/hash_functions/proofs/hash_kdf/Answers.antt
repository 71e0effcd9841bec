-- t is k || H(c), of which SHAKE256 writes out's 32 bytes.
use mathlib.Core.Path.{ap, ap₂, ◌∙◌}
use mathlib.Core.List.{List, ◌++◌}
use Prim.Native.Nat.{ℕ}
use Rattle.fips202.specs.Sponge.{shake256}
use Rattle.hash_functions.proofs.hash_kdf.Goals as goal

pub returns : goal.returns
returns c =
    c.shake256.ensures
    ∙ ap₂ shake256
    (c.concat_bytes.ensures ∙ ap (λ (l : List ℕ). c.args.k.now ++ l) c.hash_h.ensures) c.requires.1
