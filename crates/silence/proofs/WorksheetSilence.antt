-- The worksheet as one stage, of either edition: an entry asks for one share of the secret, and for one of each word of
-- z.
use Rattle.std.specs.Prelude.{ℕ, ◌+◌, ◌≡◌, Bool, true, List, length, take, drop}
use Rattle.std.proofs.Common.{add-zero, arith}
use Rattle.std.proofs.Math.ListN.{get_or}
use Rattle.words.specs.Bounded.{Below}
use Rattle.worksheet.specs.Shares.{Shares}
use Rattle.worksheet.specs.Prog.{Prog, ret, ◌>>=◌}
use Rattle.worksheet.specs.Stage.{Stage, Beside, and_then, and_beside, and_also, moves, rearrange, comap}
use Rattle.worksheet.specs.Sharing.{none}
use Rattle.worksheet.specs.SharedList.{SharedList, unzip}
use Rattle.worksheet.specs.SharedListLaws.{shared_at-unzip}
use Rattle.worksheet.specs.Choice.{Kept, KeptList, KeptShared, SameShare}
use Rattle.masked_sampler.specs.PolynomialSilence.{Anything}
use Rattle.masked_comparison.specs.Comparison.{select_all}
use Rattle.masked_comparison.specs.SelectionSilence.{selects_stage}
use Rattle.fips202.specs.OutputLaws.{length_sha3_256, below_sha3_256}
use Rattle.hash_functions.specs.Functions.{H}
use Rattle.parameters.specs.declared.Edition.{Edition}
use Rattle.parameters.specs.declared.Edition.TheVariants.{MlKem, Kyber}
use Rattle.parameters.specs.declared.Parameters.{Parameters}
use Rattle.parameters.specs.Lengths.{ek_bytes, ct_bytes}
use Rattle.split_key.specs.SplitKey.{SplitKey}
use Rattle.stages.specs.EntryCounts.{stage3_entries, stage8_entries, stage10_entries}
use Rattle.stages.specs.EntryCounts.{encrypt_entries, compared_entries, ending_entries, steps}
use Rattle.parameters.specs.Fits.{Fits}
use Rattle.stages.specs.Moves.{coins_of}
use Rattle.stages.specs.Worksheet.{Compared, masked_decrypt, masked_encrypt, stage3, stage8, stage10, compared}
use Rattle.stages.specs.Worksheet.{ending, worksheet, word_count}
use Rattle.silence.specs.Recount.{stage_recount}
use Rattle.silence.specs.HashSilence.{masked_j-stage}
use Rattle.silence.specs.DecryptionSilence.{decrypt_stage}
use Rattle.silence.specs.NoiseSilence.{stage3-stage}
use Rattle.silence.specs.EncryptionSilence.{encrypt_stage}
use Rattle.silence.specs.ComparisonSilence.{stage8-stage}
use Rattle.silence.specs.Selected.{selected, operands}

-- what stages 1 to 8 hand on, each part with its choice
pub record KeptCompared (c : Bool × (ℕ → Bool)) (o o' : Compared) : Type 0 where
  pub equal : Kept 1 c.0 o.equal o'.equal
  pub g : KeptShared 8 c.1 o.g o'.g

module _ (p : Parameters) (fits : Fits p) (public c : List ℕ) (h-long : length (drop (ek_bytes p) public) ≡ 32)
    (h-bytes : Below 256 (drop (ek_bytes p) public)) (c-long : length c ≡ ct_bytes p) (c-bytes : Below 256 c) where
  abbrev ek : List ℕ
  ek = take (ek_bytes p) public

  abbrev h : List ℕ
  h = drop (ek_bytes p) public

  -- ---- stages 1 to 8, from a stage on, by what is live there: m', and from stage 4 on K' and the coins

  abbrev put : Shares × (SharedList × SharedList) → Compared
  put a = record { equal = a.0; g = a.1.0 }

  abbrev from8 : List Shares × (SharedList × SharedList) → Prog Compared
  from8 a = stage8 p c a.0 >>= λ b. ret (put (b, a.1))

  abbrev from4 : SharedList × SharedList → Prog Compared
  from4 a = masked_encrypt p ek a.1 (coins_of a.0) >>= λ w. from8 (w, a)

  abbrev from3 : SharedList → Prog Compared
  from3 m = stage3 m h >>= λ g. from4 (g, m)

  from8-stage : Stage (Beside (KeptList (word_count p)) (Beside (KeptShared 8) Anything)) KeptCompared
      (stage8_entries p) from8 from8
  from8-stage =
      stage_recount (add-zero (stage8_entries p))
      (and_beside ((λ j. true), tt) (stage8-stage p fits c)
      (moves {R = Beside (Kept 1) (Beside (KeptShared 8) Anything)} {S = KeptCompared} {g = put} {g' = put}
      (λ d. ((d.0, (d.1, tt)), λ a b r. record { equal = r.main; g = r.side.main }))))

  from4-stage : Stage (Beside (KeptShared 8) Anything) KeptCompared (encrypt_entries p + stage8_entries p) from4 from4
  from4-stage =
      and_also ((λ j. true), tt)
      (comap Anything operands operands (λ e. e) (λ e a b r. tt) (encrypt_stage p fits ek)) from8-stage
    where
      operands : SharedList × SharedList → SharedList × SharedList
      operands a = (a.1, coins_of a.0)

  from3-stage : Stage Anything KeptCompared (stage3_entries + (encrypt_entries p + stage8_entries p)) from3 from3
  from3-stage = and_also tt (stage3-stage h h-long h-bytes) from4-stage

  compared_stage : Stage SameShare KeptCompared (compared_entries p) (λ s. masked_decrypt p s c >>= from3)
      (λ s. masked_decrypt p s c >>= from3)
  unfolding compared_entries
  compared_stage = and_then (decrypt_stage p c) from3-stage

  -- ---- what follows stage 8, beside z: selection as in stage 10, and a hash before it or behind it

  selected-stage : Stage (Beside KeptCompared (KeptShared 4)) (KeptShared 4) stage10_entries selected selected
  unfolding stage10 select_all
  selected-stage =
      comap (Beside KeptCompared (KeptShared 4)) operands operands (λ e. ((e.0, λ j. e.1), λ j. e.1))
      (λ e a b r.
      record {
        bit = r.main.equal;
        left = record { at = λ j l. r.main.g.at j (omega arith) };
        right = r.side;
      })
      (rearrange (KeptShared 4) (λ o. unzip 4 (λ j. get_or o j none)) (λ o. unzip 4 (λ j. get_or o j none)) (λ d. d)
      (λ d x y r. record {
        at = λ j l.
            rw (shared_at-unzip 4 (λ j. get_or x j none) j l, shared_at-unzip 4 (λ j. get_or y j none) j l)
            (r.at none none j l);
      })
      (selects_stage 4))

  -- ML-KEM's rejected words, beside all that is live
  abbrev from10 : SharedList × (Compared × SharedList) → Prog SharedList
  from10 a = selected (a.1.0, a.0)

  from10-stage : Stage (Beside (KeptShared 4) (Beside KeptCompared (KeptShared 4))) (KeptShared 4) stage10_entries
      from10 from10
  from10-stage =
      comap (Beside (KeptShared 4) (Beside KeptCompared (KeptShared 4))) (λ a. (a.1.0, a.0)) (λ a. (a.1.0, a.0))
      (λ e. (e.1, (e.0, λ j. true)))
      (λ e a b r. record { main = r.side.main; side = r.main })
      selected-stage

  ending-stage : (e : Edition) → Stage (Beside KeptCompared (KeptShared 4)) (KeptShared 4) (ending_entries e p)
      (λ a. ending e a.0 a.1 c) (λ a. ending e a.0 a.1 c)
  unfolding ending ending_entries
  ending-stage MlKem =
      and_also ((true, λ j. true), λ j. true)
      (comap Anything (λ (a : Compared × SharedList). a.1) (λ a. a.1) (λ e. e) (λ e a b r. tt)
      (masked_j-stage (ct_bytes p) c c-long c-bytes))
      from10-stage
  ending-stage Kyber =
      and_then selected-stage
      (comap (KeptShared 4) (λ w. w) (λ w. w) (λ e j. true) (λ e a b r. tt)
      (masked_j-stage 32 (H c) (length_sha3_256 c) (below_sha3_256 c)))

  -- ---- the whole: the secret's shares and z's, with the public key and h

  abbrev pub key_of : SharedList × SharedList → SplitKey
  key_of a = record { s = a.0; z = a.1; public = public }

  pub worksheet-stage : (e : Edition)
      → Stage (Beside SameShare (KeptShared 4)) (KeptShared 4) (steps e p) (λ a. worksheet e p (key_of a) c)
      (λ a. worksheet e p (key_of a) c)
  unfolding worksheet compared steps
  worksheet-stage e = and_beside (λ j. true) compared_stage (ending-stage e)
