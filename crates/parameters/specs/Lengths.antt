-- Lengths in bytes: of an encoded vector, and, as FIPS 203 has them in table 3, of the two keys and the ciphertext.
use Rattle.std.specs.Prelude.{ℕ, ◌+◌, ◌*◌}
use Rattle.parameters.specs.declared.Parameters.{Parameters}

abbrev pub vector_bytes : Parameters → ℕ
vector_bytes p = 384 * p.k

abbrev pub ek_bytes : Parameters → ℕ
ek_bytes p = vector_bytes p + 32

abbrev pub dk_bytes : Parameters → ℕ
dk_bytes p = vector_bytes p + ek_bytes p + 64

abbrev pub ct_bytes : Parameters → ℕ
ct_bytes p = 32 * (p.du * p.k + p.dv)
