-- Where import answers done, its rows have shown what its split needs.
use Rattle.std.specs.Prelude.{◌≡◌, List, ℕ, ◌^◌}
use Rattle.std.proofs.Common.{sym}
use Rattle.words.specs.Bounded.{Below}
use Rattle.refusals.specs.Refusals.{Done}
use Rattle.refusals.specs.RefusalLaws.{number-done}
use Rattle.parameters.specs.declared.Parameters.{Parameters}
use Rattle.split_key.specs.Import.{import_answer, Imported}
use Rattle.split_key.specs.Importable.{Importable}
use Rattle.split_key.specs.AcceptedLaws.{import_exact, import_accepted}
use Rattle.split_key.specs.KeyState.{KeyState}

module _ {p : Parameters} {dk mask_coeffs mask_words : List ℕ} {limit : ℕ} {state₀ state : KeyState}
    (i : Imported p dk mask_coeffs mask_words limit state₀ 0 state) where
  done : import_answer p dk mask_coeffs mask_words limit state₀.key ≡ Done
  done = number-done (import_answer p dk mask_coeffs mask_words limit state₀.key) (sym i.answer)

  pub imported_importable : Below 256 dk → Below (2 ^ 64) mask_words → Importable p dk mask_coeffs mask_words
  imported_importable bytes bits =
      let long = import_exact p dk mask_coeffs mask_words limit state₀.key done in
      record {
        accepted = import_accepted p dk mask_coeffs mask_words limit state₀.key done;
        bytes = bytes;
        coeffs = long.1.0;
        words = long.1.1.0;
        bits = bits;
      }
