-- What follows stage 8: from the equal bit, K' and z it makes the edition's K. ML-KEM hashes z and then selects, Kyber
-- selects and then hashes what it selected.
use Rattle.std.specs.Prelude.{◌≡◌, refl, Bool, true, false, cond, List, ◌++◌, ℕ, take}
use Rattle.std.proofs.Common.{sym, ap, ◌∙◌, subst, arith, length-take, get_or-take}
use Rattle.std.proofs.Math.ListN.{get_or}
use Rattle.words.specs.Bounded.{Below}
use Rattle.words.specs.LittleEndian.{words_to_bytes}
use Rattle.words.specs.LittleEndianLaws.{take-words_to_bytes}
use Rattle.words.specs.Tab.{tab}
use Rattle.words.specs.TabLaws.{length-tab, get_or-tab, tab_of}
use Rattle.worksheet.specs.Shares.{Shares}
use Rattle.worksheet.specs.Gives.{Gives, ret_g, gives_bind, gives_weaken, gives-times}
use Rattle.worksheet.specs.Sharing.{none}
use Rattle.worksheet.specs.SharingLaws.{Sharing}
use Rattle.worksheet.specs.SharedList.{SharedList, unzip, joined_list}
use Rattle.worksheet.specs.SharedListLaws.{shared_at-unzip}
use Rattle.fips202.specs.OutputLaws.{below_sha3_256}
use Rattle.masked_fips202.specs.MaskedSpongeValue.{joined_list_words}
use Rattle.masked_comparison.specs.Comparison.{select_all}
use Rattle.masked_comparison.specs.ComparisonLaws.{is_zero}
use Rattle.masked_comparison.specs.SelectionLaws.{gives_select}
use Rattle.parameters.specs.declared.Edition.{Edition}
use Rattle.parameters.specs.declared.Edition.TheVariants.{MlKem, Kyber}
use Rattle.hash_functions.specs.Functions.{H, J}
use Rattle.stages.specs.Worksheet.{Compared, stage10, ending}
use Rattle.meaning.specs.StageSharing.{BytesSharing}
use Rattle.meaning.specs.HashValue.{gives-masked_j}

-- ---- stage 10

choice : (b : Bool) (x y : ℕ) → cond (is_zero (cond b 1 0)) y x ≡ cond b x y
choice true x y = refl
choice false x y = refl

module _ {x y : List ℕ} {g rejected : SharedList} (a : BytesSharing 8 x g) (r : BytesSharing 4 y rejected) where
  -- the first four words of eight, or four, chosen by b
  abbrev chosen : Bool → ℕ → ℕ
  chosen b j = cond b (get_or a.words j 0) (get_or r.words j 0)

  chosen_bytes : (b : Bool) → words_to_bytes 8 (tab 4 (chosen b)) ≡ cond b (take 32 x) y
  chosen_bytes true =
      let l = a.words in
      let e = a.sharing.long in
      ap (words_to_bytes 8) (sym (tab_of 0 (take 4 l) 4 (length-take 4 l ∙ omega arith) (λ j h. get_or-take 4 l j 0 h)))
      ∙ sym (take-words_to_bytes 8 4 l (omega arith))
      ∙ ap (take 32) a.bytes
  chosen_bytes false = ap (words_to_bytes 8) (sym (tab_of 0 r.words 4 r.sharing.long (λ j h. refl))) ∙ r.bytes

  gives-stage10 : (b : Bool) {q : Shares} → Sharing 1 (cond b 1 0) q
      → Gives (BytesSharing 4 (cond b (take 32 x) y)) (stage10 q g rejected)
  unfolding stage10 select_all unzip
  gives-stage10 b s =
      gives_bind
      (gives-times _ 4 (λ j h. gives_select s (a.sharing.at j (omega arith)) (r.sharing.at j h))) (λ o e.
      ret_g
      (record {
        words = tab 4 (chosen b);
        sharing = record {
          long = length-tab 4 (chosen b);
          long0 = length-tab 4 _;
          at = λ j h.
              rw (get_or-tab 4 (chosen b) j 0 h, shared_at-unzip 4 (λ j. get_or o j none) j h)
              (subst (λ (w : ℕ). Sharing 64 w (get_or o j none)) (choice b (get_or a.words j 0) (get_or r.words j 0))
              (e.at none j h));
        };
        bytes = chosen_bytes b;
      }))

-- ---- the whole

-- K, from K' and z, where b says that c is the ciphertext made again
abbrev pub secret_of : Edition → Bool → List ℕ → List ℕ → List ℕ → List ℕ
secret_of MlKem b k z c = cond b k (J (z ++ c))
secret_of Kyber b k z c = cond b (J (k ++ H c)) (J (z ++ H c))

hash_chosen : (b : Bool) (k z h : List ℕ) → J (cond b k z ++ h) ≡ cond b (J (k ++ h)) (J (z ++ h))
hash_chosen true k z h = refl
hash_chosen false k z h = refl

joined_bytes : {n : ℕ} {b : List ℕ} {s : SharedList} → BytesSharing n b s → words_to_bytes 8 (joined_list s) ≡ b
joined_bytes a = ap (words_to_bytes 8) (joined_list_words a.sharing) ∙ a.bytes

module _ (b : Bool) {x y c : List ℕ} {o : Compared} {z : SharedList} (equal : Sharing 1 (cond b 1 0) o.equal)
    (g : BytesSharing 8 x o.g) (zs : BytesSharing 4 y z) (bytes : Below 256 c) where
  pub gives-ending : (e : Edition)
      → Gives (λ K. words_to_bytes 8 (joined_list K) ≡ secret_of e b (take 32 x) y c) (ending e o z c)
  unfolding ending
  gives-ending MlKem =
      gives_bind (gives-masked_j c bytes zs) (λ rejected r.
      gives_weaken (λ K a. joined_bytes a) (gives-stage10 g r b equal))
  gives-ending Kyber =
      gives_bind (gives-stage10 g zs b equal) (λ w a.
      gives_weaken (λ K k. joined_bytes k ∙ hash_chosen b (take 32 x) y (H c))
      (gives-masked_j (H c) (below_sha3_256 c) a))
