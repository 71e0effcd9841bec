-- What a split key stands for (document 01, The work and its edge): the decapsulation key that it joins to.
use Rattle.std.specs.Prelude.{List, ◌++◌, ℕ}
use Rattle.words.specs.LittleEndian.{words_to_bytes}
use Rattle.codec.specs.Bytes.{byte_encode}
use Rattle.ring.specs.Polynomial.{add}
use Rattle.worksheet.specs.SharedList.{SharedList, joined_list}
use Rattle.parameters.specs.declared.Parameters.{Parameters}
use Rattle.vectors.specs.Vector.{parts, concat}
use Rattle.split_key.specs.SplitKey.{SplitKey}

-- the sums modulo q of two shares of coefficients
abbrev pub joined_coeffs : SharedList → List ℕ
joined_coeffs s = add s.s0 s.s1

-- the encoded secret, the public key and h as stored, and z
unfoldable pub joined_dk : Parameters → SplitKey → List ℕ
joined_dk p key =
    concat p.k (λ i. byte_encode 12 (parts 256 (joined_coeffs key.s) i))
    ++ (key.public ++ words_to_bytes 8 (joined_list key.z))
