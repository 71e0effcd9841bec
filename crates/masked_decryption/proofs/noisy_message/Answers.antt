-- Each share is multiplied by the same transformed u, and only share 0 has the ciphertext's second part; so the two
-- outcomes are stage 1's, and they are entered.
use mathlib.Core.Path.{refl, ap₂, ◌∙◌}
use lib.ListN.{replicate}
use Rattle.ring.specs.Polynomial.{sub}
use Rattle.ring.specs.Sum.{below_sub}
use Rattle.worksheet.specs.SharedList.{shared_list}
use Rattle.masked_decryption.proofs.Decrypted.{stage1_of_lem}
use native.Mathlib.Omega.{arith}
use Rattle.masked_decryption.proofs.noisy_message.Goals as goal

pub enter_both-requires : goal.enter_both-requires
enter_both-requires c =
    omega (arith, c.requires.input.out)

pub returns : goal.returns
returns c =
    record {
      ran =
          stage1_of_lem c.args.p c.args.c.now c.transformed_first.ensures
          (shared_list c.args.s0.now c.args.s1.now)
          (c.take_product.ensures ∙ ap₂ sub c.decoded_second.ensures refl)
          (c.take_product-2.ensures
          ∙ ap₂ sub (c.clear.ensures ∙ ap₂ replicate c.requires.input.out.long1 refl) refl)
          c.enter_both.ensures;
      range =
          record {
            long0 = omega (arith, c.requires.input.out);
            long1 = omega (arith, c.requires.input.out);
            below0 = rw c.take_product.ensures (below_sub _ _);
            below1 = rw c.take_product-2.ensures (below_sub _ _);
          };
    }
