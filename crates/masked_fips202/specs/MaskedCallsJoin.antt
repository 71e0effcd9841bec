-- The hash calls on two shares: where a call is carried out, its two outputs join, byte by byte by exclusive or, to
-- FIPS 202's hash of what its two inputs join to, whatever masks are lent. Lengths follow from the answer. Bytes are
-- below 256 and words below 2^64: at a call the types of the slices say so, and of lists it is asked.
use Rattle.std.specs.Prelude.{◌≡◌, ℕ, ◌^◌, length}
use Rattle.std.proofs.Common.{sym, ap₂, ◌∙◌}
use Rattle.std.proofs.Math.Path.{ap}
use mathlib.Core.List.{List, []}
use Rattle.words.specs.Bounded.{Below}
use Rattle.worksheet.specs.Prog.{Prog}
use Rattle.worksheet.specs.Run.{run}
use Rattle.worksheet.specs.SharedList.{SharedList, shared_list, joined_list}
use Rattle.refusals.specs.declared.Refusal.TheVariants.{WrongLength}
use Rattle.refusals.specs.Refusals.{Answer, Done}
use Rattle.refusals.specs.RefusalLaws.{number-done, done_passed, sized-exact}
use Rattle.fips202.specs.Sponge.{sha3_512, shake256}
use Rattle.masked_fips202.specs.MaskedCalls.{hash_answer, sha3_512_answer, MaskedHashed}
use Rattle.masked_fips202.specs.MaskedCalls.{masked_sha3_512_call, masked_shake256_call}
use Rattle.masked_fips202.specs.MaskedSpongeValue.{sha3_512_joined, shake256_joined}

module _ {r : Answer} {p : Prog SharedList} {masks old0 old1 new0 new1 : List ℕ}
    (c : MaskedHashed r p masks old0 old1 0 new0 new1) where
  carried_out_lem : r ≡ Done
  carried_out_lem = number-done r (sym c.answer)

  outputs : shared_list new0 new1 ≡ (run p masks []).value
  outputs = ap₂ shared_list c.out0 c.out1

module _ {in0 in1 masks old0 old1 new0 new1 : List ℕ} where
  pub masked_sha3_512_joins : masked_sha3_512_call in0 in1 masks old0 old1 0 new0 new1
      → Below 256 in0 → Below 256 in1 → Below (2 ^ 64) masks
      → joined_list (shared_list new0 new1) ≡ sha3_512 (joined_list (shared_list in0 in1))
  unfolding sha3_512_answer
  masked_sha3_512_joins c b0 b1 h =
      let long = sized-exact _ (done_passed _ WrongLength [] (carried_out_lem c)).0 in
      ap joined_list (outputs c) ∙ sha3_512_joined long.1.0 b0 b1 h

  pub masked_shake256_joins : masked_shake256_call in0 in1 masks old0 old1 0 new0 new1
      → Below 256 in0 → Below 256 in1 → Below (2 ^ 64) masks
      → joined_list (shared_list new0 new1) ≡ shake256 (joined_list (shared_list in0 in1)) (length old0)
  unfolding hash_answer
  masked_shake256_joins c b0 b1 h =
      let long = sized-exact _ (done_passed _ WrongLength [] (carried_out_lem c)).0 in
      ap joined_list (outputs c) ∙ shake256_joined long.0 b0 b1 (length old0) h
