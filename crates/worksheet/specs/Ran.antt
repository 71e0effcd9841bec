-- Contracts of recorded code: what a program does, beside what the code hands back.
use Rattle.std.specs.Prelude.{ℕ, ◌+◌, ◌-◌, ◌≡◌, refl, List, get_or, take, drop, length}
use Rattle.std.proofs.Common.{ap, ap₂, ◌∙◌, add-zero, get_or-drop, drop-drop}
use Rattle.words.specs.Word.{low}
use Rattle.words.specs.Bits.{Bits}
use Rattle.words.specs.Part.{part_rest}
use Rattle.words.specs.WordLaws.{low_of_bits}
use Rattle.worksheet.specs.declared.Recorder.{Recorder}
use Rattle.worksheet.specs.Prog.{Mask, word, coeff, Prog, ret, ◌>>=◌, mask, mask_low, entry}
use Rattle.worksheet.specs.Run.{Run, run}
use Rattle.worksheet.specs.RunLaws.{run_bind}
use Rattle.worksheet.specs.Recording.{note, note_all, note_all_append}

-- p, run on the strips ws and cs, gives a and leaves ws' and cs'; its entries take the recorder from r to r'
pub record Ran {A : Type 0} (p : Prog A) (r : Recorder) (ws cs : List ℕ) (a : A) (r' : Recorder)
    (ws' cs' : List ℕ) : Type 0 where
  pub value : (run p ws cs).value ≡ a
  pub seen : note_all r (run p ws cs).entries ≡ r'
  pub words : (run p ws cs).words ≡ ws'
  pub coeffs : (run p ws cs).coeffs ≡ cs'

-- of a program that draws nothing
abbrev pub Makes : {A : Type 0} → Prog A → Recorder → A → Recorder → Type 0
Makes p r a r' = (ws cs : List ℕ) → Ran p r ws cs a r' ws cs

-- of one that is handed the one mask x that it draws
abbrev pub MakesWith : {A : Type 0} → Mask → Prog A → ℕ → Recorder → A → Recorder → Type 0
MakesWith word p x r a r' = (ws cs : List ℕ) → get_or ws 0 0 ≡ x → Ran p r ws cs a r' (drop 1 ws) cs
MakesWith coeff p x r a r' = (ws cs : List ℕ) → get_or cs 0 0 ≡ x → Ran p r ws cs a r' ws (drop 1 cs)

-- of one that is handed the n lowest bits x of the one mask word that it draws
abbrev pub MakesWithLow : {A : Type 0} → ℕ → Prog A → ℕ → Recorder → A → Recorder → Type 0
MakesWithLow n p x r a r' = (ws cs : List ℕ) → low n (get_or ws 0 0) ≡ x → Ran p r ws cs a r' (drop 1 ws) cs

-- of one that is lent a strip xs and draws its first n masks
abbrev pub Draws : {A : Type 0} → Mask → ℕ → Prog A → Recorder → List ℕ → A → Recorder → Type 0
Draws word n p r xs a r' = (cs : List ℕ) → Ran p r xs cs a r' (drop n xs) cs
Draws coeff n p r xs a r' = (ws : List ℕ) → Ran p r ws xs a r' ws (drop n xs)

pub bind : {A B : Type 0} {p : Prog A} (f : A → Prog B) {r r' r'' : Recorder} {ws ws' ws'' cs cs' cs'' : List ℕ} {a : A}
    {b : B}
    → Ran p r ws cs a r' ws' cs' → Ran (f a) r' ws' cs' b r'' ws'' cs'' → Ran (p >>= f) r ws cs b r'' ws'' cs''
bind {B = B} {p = p} f {r = r} {ws = ws} {ws' = ws'} {cs = cs} {cs' = cs'} {a = a} s t =
    let o = run p ws cs in
    let e = run_bind p f ws cs in
    let q : run (f o.value) o.words o.coeffs ≡ run (f a) ws' cs' = rw (s.value, s.words, s.coeffs) in
    record {
      value = ap (λ (x : Run B). x.value) e ∙ ap (λ (x : Run B). x.value) q ∙ t.value;
      seen =
          ap (λ (x : Run B). note_all r x.entries) e
          ∙ note_all_append r o.entries (run (f o.value) o.words o.coeffs).entries
          ∙ ap₂ (λ (x : Recorder) (y : Run B). note_all x y.entries) s.seen q
          ∙ t.seen;
      words = ap (λ (x : Run B). x.words) e ∙ ap (λ (x : Run B). x.words) q ∙ t.words;
      coeffs = ap (λ (x : Run B). x.coeffs) e ∙ ap (λ (x : Run B). x.coeffs) q ∙ t.coeffs;
    }

pub over : {A : Type 0} {a : A} {r : Recorder} {ws cs : List ℕ} → Ran (ret a) r ws cs a r ws cs
unfolding run note_all
over = record { value = refl; seen = refl; words = refl; coeffs = refl }

pub enters : {v : ℕ} {r : Recorder} {ws cs : List ℕ} → Ran (entry v) r ws cs v (note r v) ws cs
unfolding run note_all entry
enters = record { value = refl; seen = refl; words = refl; coeffs = refl }

pub draws_word : {r : Recorder} {ws cs : List ℕ} {x : ℕ} → get_or ws 0 0 ≡ x
    → Ran (mask word) r ws cs x r (drop 1 ws) cs
unfolding run note_all mask
draws_word e = record { value = e; seen = refl; words = refl; coeffs = refl }

pub draws_coeff : {r : Recorder} {ws cs : List ℕ} {x : ℕ} → get_or cs 0 0 ≡ x
    → Ran (mask coeff) r ws cs x r ws (drop 1 cs)
unfolding run note_all mask
draws_coeff e = record { value = e; seen = refl; words = refl; coeffs = refl }

pub draws_low : (n : ℕ) {r : Recorder} {ws cs : List ℕ} {x : ℕ}
    → low n (get_or ws 0 0) ≡ x → Ran (mask_low n) r ws cs x r (drop 1 ws) cs
unfolding mask_low
draws_low n e = bind _ (draws_word refl) (rw e over)

-- the one mask is the next of a strip of which i are drawn
get_or_next : (xs : List ℕ) (i : ℕ) → get_or (drop i xs) 0 0 ≡ get_or xs i 0
get_or_next xs i = get_or-drop i xs 0 0 ∙ rw (add-zero i)

pub next_word : {A : Type 0} {p : Prog A} {r r' : Recorder} {a : A} (ws : List ℕ) (i : ℕ) {cs : List ℕ}
    → MakesWith word p (get_or ws i 0) r a r' → Ran p r (drop i ws) cs a r' (drop (i + 1) ws) cs
next_word ws i {cs} m = rw (drop-drop 1 i ws) at (m (drop i ws) cs (get_or_next ws i))

next_low : {A : Type 0} (n : ℕ) {p : Prog A} {r r' : Recorder} {a : A} (ws : List ℕ) (i : ℕ) {cs : List ℕ}
    → MakesWithLow n p (low n (get_or ws i 0)) r a r' → Ran p r (drop i ws) cs a r' (drop (i + 1) ws) cs
next_low n ws i {cs} m = rw (drop-drop 1 i ws) at (m (drop i ws) cs (ap (low n) (get_or_next ws i)))

-- of a mask that has n bits as it stands
pub next_bits : {A : Type 0} (n : ℕ) {p : Prog A} {r r' : Recorder} {a : A} (ws : List ℕ) (i : ℕ) {cs : List ℕ}
    → Bits n (get_or ws i 0) → MakesWithLow n p (get_or ws i 0) r a r'
    → Ran p r (drop i ws) cs a r' (drop (i + 1) ws) cs
next_bits n ws i b m = next_low n ws i (rw (low_of_bits b) m)

pub next_coeff : {A : Type 0} {p : Prog A} {r r' : Recorder} {a : A} (cs : List ℕ) (i : ℕ) {ws : List ℕ}
    → MakesWith coeff p (get_or cs i 0) r a r' → Ran p r ws (drop i cs) a r' ws (drop (i + 1) cs)
next_coeff cs i {ws} m = rw (drop-drop 1 i cs) at (m ws (drop i cs) (get_or_next cs i))

-- a program that is lent `&ws[i..]`, the part of a strip from i on, and draws n masks
pub part_words : {A : Type 0} {p : Prog A} {r r' : Recorder} {a : A} (ws : List ℕ) (i n : ℕ) {cs cs' : List ℕ}
    → Ran p r (take (length ws - i) (drop i ws)) cs a r' (drop n (take (length ws - i) (drop i ws))) cs'
    → Ran p r (drop i ws) cs a r' (drop (i + n) ws) cs'
part_words ws i n h = rw (part_rest i ws, drop-drop n i ws) at h

pub part_coeffs : {A : Type 0} {p : Prog A} {r r' : Recorder} {a : A} (cs : List ℕ) (i n : ℕ) {ws ws' : List ℕ}
    → Ran p r ws (take (length cs - i) (drop i cs)) a r' ws' (drop n (take (length cs - i) (drop i cs)))
    → Ran p r ws (drop i cs) a r' ws' (drop (i + n) cs)
part_coeffs cs i n h = rw (part_rest i cs, drop-drop n i cs) at h
