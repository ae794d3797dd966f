-- What a word says is an option that is written so, and the words of an option say it.
use Rattle.std.proofs.Common.{◌≡◌, refl, sym, ◌∙◌, ap, subst, ℕ, ◌≤◌, List, [], ◌∷◌, ◌++◌, Option, Some, None, inl, inr, arith}
use Rattle.std.specs.Prelude.{◌⊎◌, if◌then◌else◌, bytes_eq, eqb, codes, option_map}
use Rattle.std.specs.List.{slice_split}
use Rattle.std.specs.Fmt.{decimal}
use Rattle.pz_words.specs.declared.jobs.Choice.TheVariants as choice
use Rattle.pz_words.specs.declared.options.OptionWord.{OptionWord}
use Rattle.pz_words.specs.declared.options.OptionWord.TheVariants.{Chooses, Steps, Until, Units, Summary}
use Rattle.pz_words.specs.Options.{step_limit, unit_limit}
use Rattle.pz_words.specs.declared.names.Valued.{Valued}
use Rattle.pz_words.specs.declared.names.Valued.TheVariants as option
use Rattle.pz_words.specs.declared.reading.Heard.{Heard}
use Rattle.pz_words.specs.declared.reading.Heard.TheVariants.{Says, Names, Nothing}
use Rattle.pz_words.specs.Numbers.{IsNumber, listed}
use Rattle.pz_words.specs.Options.{words_of, IsAllowed}
use Rattle.pz_words.specs.devices.Reading.{number_of, number_between, numbers_of, value_of, flag, option_named, heard, heard_setting, heard_name, heard_first}
use Rattle.pz_words.proofs.Outcomes.{some_same, none_some, map_some, by_word}
use Rattle.pz_words.proofs.Numerals.{found, is_number, between_found, is_between}
use Rattle.pz_words.proofs.Lists.{entries_found, are_entries}

abbrev pub name_text : Valued → List ℕ
name_text option.Seed = codes "--seed"
name_text option.Choices = codes "--choices"
name_text option.Steps = codes "--steps"
name_text option.Until = codes "--until"
name_text option.Units = codes "--units"

-- the words that stand before a value that is awaited
abbrev pub awaiting : Option Valued → List (List ℕ)
awaiting None = []
awaiting (Some v) = name_text v ∷ []

-- the option is written as these words, and its value is allowed
pub record IsWritten (words : List (List ℕ)) (s : OptionWord) : Type 0 where
  pub written : words_of s ≡ words
  pub allowed : IsAllowed s

module _ where
  flag_written : (w : List ℕ) (s : OptionWord) → flag w ≡ Some s → IsWritten (w ∷ []) s
  flag_written w s e = first (by_word w (codes "--first") (Some (Chooses choice.First)) _ (Some s) e)
    where
      second : ((w ≡ codes "--summary") × (Some Summary ≡ Some s)) ⊎ (None ≡ Some s) → IsWritten (w ∷ []) s
      second (inl is) = subst (IsWritten (w ∷ [])) (some_same _ _ is.1) (record { written = ap (λ (v : List ℕ). v ∷ []) (sym is.0); allowed = tt })
      second (inr never) = absurd (none_some s never)

      first : ((w ≡ codes "--first") × (Some (Chooses choice.First) ≡ Some s)) ⊎ ((if bytes_eq w (codes "--summary") then Some Summary else None) ≡ Some s) → IsWritten (w ∷ []) s
      first (inl is) = subst (IsWritten (w ∷ [])) (some_same _ _ is.1) (record { written = ap (λ (v : List ℕ). v ∷ []) (sym is.0); allowed = tt })
      first (inr other) = second (by_word w (codes "--summary") (Some Summary) None (Some s) other)

  here : (w : List ℕ) (v u : Valued) → w ≡ name_text u → Some u ≡ Some v → w ≡ name_text v
  here w v u is e = is ∙ ap name_text (some_same u v e)

  pub valued_named : (w : List ℕ) (v : Valued) → option_named w ≡ Some v → w ≡ name_text v
  valued_named w v e = seed (by_word w (codes "--seed") (Some option.Seed) _ (Some v) e)
    where
      units : ((w ≡ codes "--units") × (Some option.Units ≡ Some v)) ⊎ (None ≡ Some v) → w ≡ name_text v
      units (inl is) = here w v option.Units is.0 is.1
      units (inr never) = absurd (none_some v never)

      until : ((w ≡ codes "--until") × (Some option.Until ≡ Some v)) ⊎ ((if bytes_eq w (codes "--units") then Some option.Units else None) ≡ Some v) → w ≡ name_text v
      until (inl is) = here w v option.Until is.0 is.1
      until (inr other) = units (by_word w (codes "--units") _ _ (Some v) other)

      steps : ((w ≡ codes "--steps") × (Some option.Steps ≡ Some v)) ⊎ ((if bytes_eq w (codes "--until") then Some option.Until else (if bytes_eq w (codes "--units") then Some option.Units else None)) ≡ Some v) → w ≡ name_text v
      steps (inl is) = here w v option.Steps is.0 is.1
      steps (inr other) = until (by_word w (codes "--until") _ _ (Some v) other)

      choices : ((w ≡ codes "--choices") × (Some option.Choices ≡ Some v)) ⊎ ((if bytes_eq w (codes "--steps") then Some option.Steps else (if bytes_eq w (codes "--until") then Some option.Until else (if bytes_eq w (codes "--units") then Some option.Units else None))) ≡ Some v) → w ≡ name_text v
      choices (inl is) = here w v option.Choices is.0 is.1
      choices (inr other) = steps (by_word w (codes "--steps") _ _ (Some v) other)

      seed : ((w ≡ codes "--seed") × (Some option.Seed ≡ Some v)) ⊎ ((if bytes_eq w (codes "--choices") then Some option.Choices else (if bytes_eq w (codes "--steps") then Some option.Steps else (if bytes_eq w (codes "--until") then Some option.Until else (if bytes_eq w (codes "--units") then Some option.Units else None)))) ≡ Some v) → w ≡ name_text v
      seed (inl is) = here w v option.Seed is.0 is.1
      seed (inr other) = choices (by_word w (codes "--choices") _ _ (Some v) other)

  -- an option whose value is a number with this text
  numbered : (name w : List ℕ) (n : ℕ) → w ≡ decimal n → (name ∷ decimal n ∷ []) ≡ (name ∷ w ∷ [])
  numbered name w n is = ap (λ (x : List ℕ). name ∷ x ∷ []) (sym is)

  pub value_written : (v : Valued) (w : List ℕ) (s : OptionWord) → value_of v w ≡ Some s → IsWritten (name_text v ∷ w ∷ []) s
  value_written option.Seed w s e =
      let told = map_some (λ n. Chooses (choice.Seed n)) (number_of w) s e in
      let is = is_number told.0 w told.1 in
      subst (IsWritten (codes "--seed" ∷ w ∷ [])) told.2 (record { written = numbered _ w told.0 is.digits; allowed = is.short })
  value_written option.Choices w s e =
      let told = map_some (λ ns. Chooses (choice.List ns)) (numbers_of (slice_split (λ b. eqb b 44) w)) s e in
      let are = are_entries w told.0 told.1 in
      subst (IsWritten (codes "--choices" ∷ w ∷ [])) told.2 (record { written = ap (λ (x : List ℕ). codes "--choices" ∷ x ∷ []) (sym are.0); allowed = are.1 })
  value_written option.Steps w s e =
      let told = map_some (λ n. Steps n) (number_between 0 step_limit w) s e in
      let is = is_between 0 step_limit told.0 w told.1 in
      subst (IsWritten (codes "--steps" ∷ w ∷ [])) told.2 (record { written = numbered _ w told.0 is.0.digits; allowed = is.2 })
  value_written option.Until w s e =
      let told = map_some (λ n. Until n) (number_of w) s e in
      let is = is_number told.0 w told.1 in
      subst (IsWritten (codes "--until" ∷ w ∷ [])) told.2 (record { written = numbered _ w told.0 is.digits; allowed = is.short })
  value_written option.Units w s e =
      let told = map_some (λ n. Units n) (number_between 1 unit_limit w) s e in
      let is = is_between 1 unit_limit told.0 w told.1 in
      subst (IsWritten (codes "--units" ∷ w ∷ [])) told.2 (record { written = numbered _ w told.0 is.0.digits; allowed = (is.1, is.2) })

  abbrev says : Heard → OptionWord → OptionWord
  says (Says s) other = s
  says (Names v) other = other
  says Nothing other = other

  abbrev names : Heard → Valued → Valued
  names (Names v) other = v
  names (Says s) other = other
  names Nothing other = other

  setting_heard : (o : Option OptionWord) (s : OptionWord) → heard_setting o ≡ Says s → o ≡ Some s
  setting_heard None s e = cc
  setting_heard (Some t) s e = ap (λ h. Some (says h t)) e

  name_not_said : (o : Option Valued) (s : OptionWord) → heard_name o ≡ Says s → ⊥
  name_not_said None s e = cc
  name_not_said (Some v) s e = cc

  first_heard : (f : Option OptionWord) (v : Option Valued) (s : OptionWord) → heard_first f v ≡ Says s → f ≡ Some s
  first_heard (Some t) v s e = ap (λ h. Some (says h t)) e
  first_heard None v s e = absurd (name_not_said v s e)

  pub said_written : (a : Option Valued) (w : List ℕ) (s : OptionWord) → heard a w ≡ Says s → IsWritten (awaiting a ++ w ∷ []) s
  said_written None w s e = flag_written w s (first_heard (flag w) (option_named w) s e)
  said_written (Some v) w s e = value_written v w s (setting_heard (value_of v w) s e)

  setting_not_named : (o : Option OptionWord) (v : Valued) → heard_setting o ≡ Names v → ⊥
  setting_not_named None v e = cc
  setting_not_named (Some s) v e = cc

  name_heard : (o : Option Valued) (v : Valued) → heard_name o ≡ Names v → o ≡ Some v
  name_heard None v e = cc
  name_heard (Some u) v e = ap (λ h. Some (names h u)) e

  first_named : (f : Option OptionWord) (o : Option Valued) (v : Valued) → heard_first f o ≡ Names v → o ≡ Some v
  first_named (Some s) o v e = cc
  first_named None o v e = name_heard o v e

  pub name_awaits : (a : Option Valued) (w : List ℕ) (v : Valued) → heard a w ≡ Names v → (awaiting a ++ w ∷ []) ≡ awaiting (Some v)
  name_awaits None w v e = ap (λ (x : List ℕ). x ∷ []) (valued_named w v (first_named (flag w) (option_named w) v e))
  name_awaits (Some u) w v e = absurd (setting_not_named (value_of u w) v e)

  -- the other way round

  pub name_read : (v : Valued) → heard None (name_text v) ≡ Names v
  name_read option.Seed = refl
  name_read option.Choices = refl
  name_read option.Steps = refl
  name_read option.Until = refl
  name_read option.Units = refl

  short_steps : (n : ℕ) → n ≤ step_limit → IsNumber (decimal n) n
  short_steps n low = record { digits = refl; short = omega (arith, low) }

  pub seed_read : (n : ℕ) → IsAllowed (Chooses (choice.Seed n)) → value_of option.Seed (decimal n) ≡ Some (Chooses (choice.Seed n))
  seed_read n short = ap (option_map (λ k. Chooses (choice.Seed k))) (found n (decimal n) (record { digits = refl; short = short }))

  pub choices_read : (ns : List ℕ) → IsAllowed (Chooses (choice.List ns)) → value_of option.Choices (listed ns) ≡ Some (Chooses (choice.List ns))
  choices_read ns are = ap (option_map (λ ks. Chooses (choice.List ks))) (entries_found ns are)

  pub steps_read : (n : ℕ) → IsAllowed (Steps n) → value_of option.Steps (decimal n) ≡ Some (Steps n)
  steps_read n low = ap (option_map (λ k. Steps k)) (between_found 0 step_limit n (decimal n) (short_steps n low) (omega arith) low)

  pub until_read : (n : ℕ) → IsAllowed (Until n) → value_of option.Until (decimal n) ≡ Some (Until n)
  until_read n short = ap (option_map (λ k. Until k)) (found n (decimal n) (record { digits = refl; short = short }))

  pub units_read : (n : ℕ) → IsAllowed (Units n) → value_of option.Units (decimal n) ≡ Some (Units n)
  units_read n within = ap (option_map (λ k. Units k)) (between_found 1 unit_limit n (decimal n) (short_steps n within.1) within.0 within.1)
