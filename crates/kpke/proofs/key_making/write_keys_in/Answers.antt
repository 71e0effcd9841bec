-- s-hat and t-hat stand part by part in their slices and are below q, as sums modulo q and transforms are, so that
-- they can be encoded.
use borrow.Author.Rules.{rules}
use native.Mathlib.Omega.{arith}
use Rattle.kpke.proofs.Encoded.{below_byte_encode12}
use Rattle.kpke.proofs.Parts.{below_vector, below_transformed, below_public}
use Rattle.kpke.proofs.Keys.{ek-parts, dk-parts}
use Rattle.kpke.proofs.key_making.write_keys_in.Goals as goal

pub write_ek-requires : goal.write_ek-requires
write_ek-requires c =
    record { vector = omega arith; below = search (rules, below_public); seed = omega arith; bytes = omega arith }

pub encode_all-requires : goal.encode_all-requires
encode_all-requires c =
    let p = c.args.p in
    let below = below_transformed p.eta1 c.args.sigma.now in
    record {
      vector = omega arith;
      some = omega arith;
      most = omega arith;
      below = below_byte_encode12 (below_vector p.k _ c.transformed_noise.ensures below);
      bytes = omega arith;
    }

pub returns : goal.returns
returns c =
    let es = c.transformed_noise.ensures in
    let p = c.args.p in
    let sigma = c.args.sigma.now in
    record {
      ek = ek-parts p sigma es c.requires.0.matrix c.public_vector.ensures c.write_ek.ensures;
      dk = dk-parts p sigma es c.encode_all.ensures;
    }
