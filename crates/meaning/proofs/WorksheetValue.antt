-- Demand 2: masked decapsulation joins to the edition's decapsulation of the joined key, whatever is drawn.
use Rattle.std.specs.Prelude.{◌≡◌, refl, List, ℕ, length, take}
use Rattle.std.proofs.Common.{sym, ◌∙◌, arith}
use Rattle.words.specs.Bounded.{Below}
use Rattle.words.specs.LittleEndian.{words_to_bytes}
use Rattle.words.specs.Tab.{tab}
use Rattle.words.specs.TabLaws.{length-tab, get_or-tab}
use Rattle.worksheet.specs.Prog.{word, coeff, bound}
use Rattle.worksheet.specs.Run.{run}
use Rattle.worksheet.specs.Gives.{Gives, gives_bind, gives_weaken, gives-run}
use Rattle.worksheet.specs.Sharing.{joined}
use Rattle.worksheet.specs.SharingLaws.{sharing-joined}
use Rattle.worksheet.specs.SharedList.{shared_at, joined_list}
use Rattle.parameters.specs.declared.Edition.{Edition}
use Rattle.parameters.specs.declared.Edition.TheVariants.{MlKem, Kyber}
use Rattle.parameters.specs.declared.Parameters.{Parameters}
use Rattle.parameters.specs.Lengths.{ct_bytes}
use Rattle.refusals.specs.Same.{same}
use Rattle.mlkem.specs.MlKem as fips203
use Rattle.mlkem.specs.MlKem.{z_part}
use Rattle.mlkem.specs.Kyber as round3
use Rattle.mlkem.specs.Editions.{decaps}
use Rattle.split_key.specs.SplitKey.{SplitKey}
use Rattle.parameters.specs.Fits.{Fits}
use Rattle.stages.specs.Worksheet.{worksheet}
use Rattle.meaning.specs.JoinedDk.{joined_dk}
use Rattle.meaning.specs.InOrder.{InOrder}
use Rattle.meaning.specs.JoinedDkLaws.{z_part_joined}
use Rattle.meaning.specs.StageSharing.{BytesSharing}
use Rattle.meaning.specs.ComparedValue.{made_again, output, gives_compared}
use Rattle.meaning.specs.EndingValue.{secret_of, gives-ending}

z_sharing : {p : Parameters} {key : SplitKey} → InOrder p key
    → BytesSharing 4 (words_to_bytes 8 (joined_list key.z)) key.z
unfolding joined_list
z_sharing {key = key} o =
    let n = length key.z.s0 in
    record {
      words = tab n (λ i. joined (shared_at key.z i));
      sharing = record {
        long = length-tab n (λ i. joined (shared_at key.z i)) ∙ o.long.z0;
        long0 = o.long.z0;
        at = λ i h.
            rw (get_or-tab n (λ i. joined (shared_at key.z i)) i 0 (omega (arith, o.long.z0)))
            (sharing-joined (record { lt = o.words0.at i }) (record { lt = o.words1.at i }));
      };
      bytes = refl;
    }

-- either edition's decapsulation: up to the comparison they are one
pub decaps_by : (e : Edition) (p : Parameters) (dk c : List ℕ)
    → decaps e p dk c ≡ secret_of e (same c (made_again p dk c)) (take 32 (output p dk c)) (z_part p dk) c
unfolding decaps fips203.decaps round3.decaps
decaps_by MlKem p dk c = refl
decaps_by Kyber p dk c = refl

module _ (e : Edition) (p : Parameters) (fits : Fits p) (key : SplitKey) (o : InOrder p key)
    (c : List ℕ) (long : length c ≡ ct_bytes p) (bytes : Below 256 c) where
  decaps_joined : secret_of e (same c (made_again p (joined_dk p key) c)) (take 32 (output p (joined_dk p key) c))
      (words_to_bytes 8 (joined_list key.z)) c ≡ decaps e p (joined_dk p key) c
  decaps_joined = sym (rw (z_part_joined o) at (decaps_by e p (joined_dk p key) c))

  pub gives-worksheet : Gives (λ K. words_to_bytes 8 (joined_list K) ≡ decaps e p (joined_dk p key) c)
      (worksheet e p key c)
  unfolding worksheet
  gives-worksheet =
      gives_bind (gives_compared p fits key o c long bytes) (λ compared s.
      gives_weaken (λ K k. k ∙ decaps_joined)
      (gives-ending (same c (made_again p (joined_dk p key) c)) s.equal s.g (z_sharing o) bytes e))

  -- on every strip of masks in range
  pub run-worksheet : {ws cs : List ℕ} → Below (bound word) ws → Below (bound coeff) cs
      → words_to_bytes 8 (joined_list (run (worksheet e p key c) ws cs).value) ≡ decaps e p (joined_dk p key) c
  run-worksheet h k = gives-run gives-worksheet h k
