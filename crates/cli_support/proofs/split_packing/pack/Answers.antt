-- The shares' bytes are the first part of the string and all the rest is the second, each as its call leaves it.
use Prim.Native.Nat.{◌*◌}
use mathlib.Core.Path.{◌∙◌}
use mathlib.Core.List.{◌++◌}
use native.Mathlib.Omega.{arith}
use lib.ListN.{length-append}
use Rattle.words.specs.Overwrite.{two_parts}
use Rattle.words.specs.LittleEndian.{words_to_bytes}
use Rattle.buffers.specs.LittleEndian.{length_bytes_two}
use Rattle.cli_support.specs.Split.{split_bytes}
use Rattle.cli_support.proofs.split_packing.pack.Goals as goal

pub returns : goal.returns
unfolding split_bytes
returns c =
    let a = c.args in
    let key = a.key.now in
    let z = words_to_bytes 8 key.z0.now ++ words_to_bytes 8 key.z1.now in
    two_parts a.out.now (1024 * a.k)
    (length_bytes_two 2 key.s0.now key.s1.now ∙ omega (arith, c.requires))
    (omega (arith, length-append z key.public.now, length_bytes_two 8 key.z0.now key.z1.now, c.requires))
    c.pack_coefficients.ensures
    c.pack_rest.ensures
