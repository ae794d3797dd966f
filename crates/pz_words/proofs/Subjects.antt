-- Options none of which speaks of what another speaks of are each free when they are read.
use Rattle.std.proofs.Common.{◌≡◌, refl, suc, true, List, [], ◌∷◌, arith}
use Rattle.std.specs.Prelude.{⊤, All}
use Rattle.std.specs.List.{AllPairs, slice_index_or}
use Rattle.std.proofs.lemmas.List.Elements.{All-nil, All-cons, All-head, All-tail}
use Rattle.std.proofs.lemmas.List.Kept.{AllPairs-cons}
use Rattle.pz_words.specs.declared.options.OptionWord.{OptionWord}
use Rattle.pz_words.specs.declared.options.OptionWord.TheVariants.{Chooses, Steps, Until, Units, Summary}
use Rattle.pz_words.specs.declared.options.Options.{Options}
use Rattle.pz_words.specs.Options.{with_option, nothing_said, DifferInSubject}
use Rattle.pz_words.specs.devices.Reading.{is_free}
use Rattle.pz_words.proofs.Outcomes.{false_true}

-- each is free once those before it are said
abbrev pub AreFree : Options → List OptionWord → Type 0
AreFree o [] = ⊤
AreFree o (s ∷ ss) = (is_free s o ≡ true) × AreFree (with_option s o) ss

module _ where
  differ : (s t : OptionWord) (o : Options) → is_free t (with_option s o) ≡ true → DifferInSubject s t
  differ (Chooses c) (Chooses d) o e = absurd (false_true e)
  differ (Chooses c) t o e = λ same. cc
  differ (Steps n) (Steps m) o e = absurd (false_true e)
  differ (Steps n) t o e = λ same. cc
  differ (Until n) (Until m) o e = absurd (false_true e)
  differ (Until n) t o e = λ same. cc
  differ (Units n) (Units m) o e = absurd (false_true e)
  differ (Units n) t o e = λ same. cc
  differ Summary Summary o e = absurd (false_true e)
  differ Summary t o e = λ same. cc

  before : (s t : OptionWord) (o : Options) → is_free t (with_option s o) ≡ true → is_free t o ≡ true
  before (Chooses c) (Chooses d) o e = absurd (false_true e)
  before (Chooses c) t o e = e
  before (Steps n) (Steps m) o e = absurd (false_true e)
  before (Steps n) t o e = e
  before (Until n) (Until m) o e = absurd (false_true e)
  before (Until n) t o e = e
  before (Units n) (Units m) o e = absurd (false_true e)
  before (Units n) t o e = e
  before Summary Summary o e = absurd (false_true e)
  before Summary t o e = e

  after : (s t : OptionWord) (o : Options) → DifferInSubject s t → is_free t o ≡ true → is_free t (with_option s o) ≡ true
  after (Chooses c) (Chooses d) o other e = absurd (other refl)
  after (Chooses c) t o other e = e
  after (Steps n) (Steps m) o other e = absurd (other refl)
  after (Steps n) t o other e = e
  after (Until n) (Until m) o other e = absurd (other refl)
  after (Until n) t o other e = e
  after (Units n) (Units m) o other e = absurd (other refl)
  after (Units n) t o other e = e
  after Summary Summary o other e = absurd (other refl)
  after Summary t o other e = e

  all_map : {A : Type 0} (P Q : A → Type 0) → ((x : A) → P x → Q x) → (xs : List A) → All P xs → All Q xs
  all_map P Q f xs all = λ k d within. f (slice_index_or xs k d) (all k d within)

  all_both : {A : Type 0} (P Q R : A → Type 0) → ((x : A) → P x → Q x → R x) → (xs : List A) → All P xs → All Q xs → All R xs
  all_both P Q R f xs all every = λ k d within. f (slice_index_or xs k d) (all k d within) (every k d within)

  first_of_pairs : (s : OptionWord) (ss : List OptionWord) → AllPairs DifferInSubject (s ∷ ss) → All (DifferInSubject s) ss
  first_of_pairs s ss pairs = λ k d within. pairs 0 (suc k) d (omega arith) (omega (arith, within))

  later_pairs : (s : OptionWord) (ss : List OptionWord) → AllPairs DifferInSubject (s ∷ ss) → AllPairs DifferInSubject ss
  later_pairs s ss pairs = λ i j d first within. pairs (suc i) (suc j) d (omega (arith, first)) (omega (arith, within))

  no_pairs : AllPairs DifferInSubject []
  no_pairs = λ i j d first within. omega (arith, within)

  pub free_before : (o : Options) (ss : List OptionWord) → AreFree o ss → All (λ s. is_free s o ≡ true) ss
  free_before o [] free = All-nil (λ s. is_free s o ≡ true)
  free_before o (s ∷ ss) free =
      All-cons (λ t. is_free t o ≡ true) s ss free.0
      (all_map (λ t. is_free t (with_option s o) ≡ true) (λ t. is_free t o ≡ true) (λ t. before s t o) ss (free_before (with_option s o) ss free.1))

  pub all_differ : (o : Options) (ss : List OptionWord) → AreFree o ss → AllPairs DifferInSubject ss
  all_differ o [] free = no_pairs
  all_differ o (s ∷ ss) free =
      AllPairs-cons DifferInSubject s ss
      (all_map (λ t. is_free t (with_option s o) ≡ true) (DifferInSubject s) (λ t. differ s t o) ss (free_before (with_option s o) ss free.1))
      (all_differ (with_option s o) ss free.1)

  pub all_free : (o : Options) (ss : List OptionWord) → All (λ s. is_free s o ≡ true) ss → AllPairs DifferInSubject ss → AreFree o ss
  all_free o [] free pairs = tt
  all_free o (s ∷ ss) free pairs = (
    All-head (λ t. is_free t o ≡ true) s ss free,
    all_free (with_option s o) ss
        (all_both (DifferInSubject s) (λ t. is_free t o ≡ true) (λ t. is_free t (with_option s o) ≡ true) (λ t. after s t o) ss
        (first_of_pairs s ss pairs) (All-tail (λ t. is_free t o ≡ true) s ss free))
        (later_pairs s ss pairs),
  )

  unsaid : (s : OptionWord) → is_free s nothing_said ≡ true
  unsaid (Chooses c) = refl
  unsaid (Steps n) = refl
  unsaid (Until n) = refl
  unsaid (Units n) = refl
  unsaid Summary = refl

  pub free_at_first : (ss : List OptionWord) → AllPairs DifferInSubject ss → AreFree nothing_said ss
  free_at_first ss pairs = all_free nothing_said ss (λ k d within. unsaid (slice_index_or ss k d)) pairs
