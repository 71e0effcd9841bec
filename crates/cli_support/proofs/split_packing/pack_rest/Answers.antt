-- The words' bytes are the first part of the string, and the public key and h the second, each as its call leaves it.
use mathlib.Core.Path.{◌∙◌}
use native.Mathlib.Omega.{arith}
use Rattle.words.specs.Overwrite.{two_parts}
use Rattle.buffers.specs.LittleEndian.{length_bytes_two}
use Rattle.cli_support.proofs.split_packing.pack_rest.Goals as goal

pub returns : goal.returns
returns c =
    let a = c.args in
    two_parts a.out.now 64
    (length_bytes_two 8 a.key.now.z0.now a.key.now.z1.now ∙ omega (arith, c.requires))
    (omega (arith, c.requires))
    c.pack_words.ensures
    c.copy_from_slice.ensures.after
