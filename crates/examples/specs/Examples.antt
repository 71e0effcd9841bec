-- Document 01, table "Examples": its starred rows in its order, worked out by the definitions that the contracts cite.
use Rattle.std.specs.Prelude.{◌≡◌, refl, List, [], ◌∷◌, map, ℕ, ◌+◌, ◌%◌, ◌^◌, get_or, replicate}
use Rattle.words.specs.Word.{xor, and, low}
use Rattle.words.specs.Digit.{digit}
use Rattle.words.specs.Numeral.{value, digits}
use Rattle.words.specs.Plane.{plane}
use Rattle.words.specs.Residue.{q}
use Rattle.words.specs.Tab.{tab}
use Rattle.worksheet.specs.Shares.{Shares}
use Rattle.worksheet.specs.Prog.{◌>>=◌, mask, mask_low, entry, loop, times, chain}
use Rattle.worksheet.specs.Run.{run}
use Rattle.worksheet.specs.Sharing.{shares, joined}
use Rattle.worksheet.specs.MaskedAnd.{masked_and}
use Rattle.worksheet.specs.Gates.{masked_xor}
use Rattle.codec.specs.Bytes.{bits_of}
use Rattle.codec.specs.Compress.{compress, decompress}
use Rattle.sampling.specs.Sample.{d₁, d₂, accepted, sum, sample_poly_cbd}
use Rattle.transform.specs.Transform.{bit_rev7, zeta}
use Rattle.masked_adder.specs.Adder.{mask_plane, carry_step, sum_plane, adder}
use Rattle.masked_compression.specs.Compression.{fixed_point, masked_compress}
use Rattle.masked_sampler.specs.Coefficient.{bit_to_coeff, sums, sampler}

-- what the definitions give, and document 01's result
pub record Row : Type 0 where
  pub given : List ℕ
  pub result : List ℕ

infix 3 ◌gives◌
abbrev pub ◌gives◌ : List ℕ → List ℕ → Row
◌gives◌ l m = record { given = l; result = m }

-- 17^e modulo q, for e below 128, as the transform has it: bit_rev7 undoes itself
abbrev pub power : ℕ → ℕ
power e = zeta (bit_rev7 e)

abbrev pub sampler_bits : List (List ℕ)
sampler_bits = (1 ∷ 1 ∷ 0 ∷ 0 ∷ []) ∷ (0 ∷ 0 ∷ 1 ∷ 1 ∷ []) ∷ []

-- FIPS 203's first coefficient of 128 bytes that begin with these bits
abbrev pub sampled : List ℕ → ℕ
sampled b = get_or (sample_poly_cbd 2 (value 2 b ∷ replicate 127 0)) 0 0

-- the gadget on sharings of these bits, on four masks; its two shares are added
abbrev pub masked_sampled : List ℕ → ℕ
masked_sampled b =
    let o = run (sampler 2 (λ j. shares (xor (get_or b j 0) (j % 2)) (j % 2))) [] (3000 ∷ 1 ∷ 1729 ∷ 0 ∷ []) in
    (o.value.s0 + o.value.s1) % q

abbrev pub pair : Shares → List ℕ
pair z = z.s0 ∷ z.s1 ∷ []

abbrev pub group : List ℕ
group = 0 ∷ 29 ∷ 208 ∷ []

-- 64 coefficients with these shares, at depth 1, on 41 mask words: the first value of either share, and the adder's
-- top plane
abbrev pub compressed : ℕ → ℕ → List ℕ
compressed x₀ x₁ =
    let o = run (masked_compress 1 (λ i. shares x₀ x₁)) (tab 41 (λ j. 17 ^ (j + 16) % 2 ^ 64)) [] in
    get_or o.entries 0 0 ∷ get_or o.entries 64 0 ∷ map joined o.value

-- the sampler by both of its definitions; of the group what is read, then what is kept
unfoldable pub table : List Row
table =
    (map (compress 1) (832 ∷ 833 ∷ []) gives 0 ∷ 1 ∷ [])
    ∷ (map (compress 1) (2496 ∷ 2497 ∷ []) gives 1 ∷ 0 ∷ [])
    ∷ (map (compress 10) (3328 ∷ []) gives 0 ∷ [])
    ∷ (map (compress 4) (3224 ∷ 3225 ∷ []) gives 15 ∷ 0 ∷ [])
    ∷ (map (decompress 1) (1 ∷ []) gives 1665 ∷ [])
    ∷ (map (decompress 10) (1 ∷ 1023 ∷ []) gives 3 ∷ 3326 ∷ [])
    ∷ (power 64 ∷ power 32 ∷ 17 ^ 128 % q ∷ [] gives 1729 ∷ 2580 ∷ 3328 ∷ [])
    ∷ (map sampled sampler_bits gives 2 ∷ 3327 ∷ [])
    ∷ (map masked_sampled sampler_bits gives 2 ∷ 3327 ∷ [])
    ∷ ((run (bit_to_coeff 1665 (shares 1 0)) [] (3000 ∷ [])).entries gives 3000 ∷ 1336 ∷ 1336 ∷ 329 ∷ [])
    ∷ (pair (run (masked_and 1 (shares 1 0) (shares 0 1)) (1 ∷ []) []).value gives 0 ∷ 1 ∷ [])
    ∷ (d₁ group 0 ∷ d₂ group 0 ∷ [] gives 3328 ∷ 3329 ∷ [])
    ∷ (accepted 1 group gives 3328 ∷ [])
    ∷ (compressed 2 2495 gives 9 ∷ 16375 ∷ 0 ∷ [])
    ∷ []

-- all rows hold: the column of what is given is the column of results
pub all_rows_hold : map (λ r. r.given) table ≡ map (λ r. r.result) table
unfolding table compress decompress zeta bit_rev7 value digits digit tab bits_of sum sample_poly_cbd accepted xor and
    low plane run ◌>>=◌ mask mask_low entry loop times chain masked_and masked_xor bit_to_coeff sums sampler mask_plane
    carry_step sum_plane adder fixed_point masked_compress
all_rows_hold = refl
