-- Each call leaves one vector of algorithm 14 in its slice, part by part, and the last call encodes u and v.
use mathlib.Core.Path.{◌≡◌, ◌∙◌}
use Prim.Native.Nat.{◌-◌}
use native.Mathlib.Omega.{arith}
use Rattle.parameters.specs.Lengths.{vector_bytes}
use Rattle.kpke.proofs.Encrypted.{encrypt-parts}
use Rattle.kpke.proofs.encrypt.encrypt_in.Goals as goal

pub second_part-requires : goal.second_part-requires
second_part-requires c =
    let i = c.requires.0 in
    let f = i.fits in (
      record {
        public = c.decode12_all.auto.v ∙ c.requires.1.t;
        vector = c.transformed_noise.auto.v ∙ c.requires.1.y;
        message = i.message;
        noise = record { long = i.coins; some = f.eta2.least; most = f.eta2.most };
        rank = omega (arith, f.rank.most);
      },
      omega arith,
    )

pub encode_parts-requires : goal.encode_parts-requires
encode_parts-requires c =
    let f = c.requires.0.fits in (
      record {
        first = c.first_parts.auto.u ∙ c.requires.1.u;
        second = omega arith;
        du_some = f.du.least;
        du_most = f.du.most;
        dv_some = f.dv.least;
        dv_most = omega (arith, f.dv.most);
      },
      omega (arith, c.requires.0.bytes),
    )

pub returns : goal.returns
returns c =
    -- the bytes of ek that are decoded, from the first
    let e : c.vector_bytes-n.result - 0 ≡ vector_bytes c.args.p = omega (arith, c.vector_bytes-n.ensures) in
    encrypt-parts c.args.p c.args.ek.now c.args.m.now c.args.r.now c.requires.0.matrix
    (rw e at c.decode12_all.ensures)
    c.transformed_noise.ensures c.first_parts.ensures c.second_part.ensures c.encode_parts.ensures
