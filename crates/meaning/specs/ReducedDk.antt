-- A decapsulation key with its secret coefficients reduced; all behind the secret part is as it stands.
use Rattle.std.specs.Prelude.{List, ◌++◌, ℕ, drop}
use Rattle.codec.specs.Bytes.{byte_encode, byte_decode12}
use Rattle.parameters.specs.declared.Parameters.{Parameters}
use Rattle.parameters.specs.Lengths.{vector_bytes}
use Rattle.vectors.specs.Vector.{parts, concat}
use Rattle.mlkem.specs.MlKem.{secret_part}

module _ (p : Parameters) (dk : List ℕ) where
  -- FIPS 203, algorithm 15, line 5: s-hat[i], its coefficients read modulo q
  abbrev pub secret_at : ℕ → List ℕ
  secret_at i = byte_decode12 (parts 384 (secret_part p dk) i)

  unfoldable pub reduced_dk : List ℕ
  reduced_dk = concat p.k (λ i. byte_encode 12 (secret_at i)) ++ drop (vector_bytes p) dk
