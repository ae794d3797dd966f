-- What is read from the words behind the names is what their options say.
use Rattle.std.proofs.Common.{◌≡◌, refl, sym, ◌∙◌, ap, subst, ℕ, true, List, [], ◌∷◌, ◌++◌, append_assoc, Option, Some, None}
use Rattle.std.specs.Prelude.{if◌then◌else◌, All}
use Rattle.std.specs.List.{flat_map}
use Rattle.std.specs.Fmt.{decimal}
use Rattle.std.proofs.lemmas.Bool.{cond-true}
use Rattle.std.proofs.lemmas.List.Elements.{All-nil, All-cons, All-head, All-tail}
use Rattle.pz_words.specs.declared.jobs.Choice.TheVariants as choice
use Rattle.pz_words.specs.declared.options.OptionWord.{OptionWord}
use Rattle.pz_words.specs.declared.options.OptionWord.TheVariants.{Chooses, Steps, Until, Units, Summary}
use Rattle.pz_words.specs.declared.options.Options.{Options}
use Rattle.pz_words.specs.declared.names.Valued.{Valued}
use Rattle.pz_words.specs.declared.names.Valued.TheVariants as option
use Rattle.pz_words.specs.declared.reading.Heard.{Heard}
use Rattle.pz_words.specs.declared.reading.Heard.TheVariants.{Says, Names, Nothing}
use Rattle.pz_words.specs.Numbers.{listed}
use Rattle.pz_words.specs.Options.{words_of, IsAllowed, with_option, nothing_said, said_with, AreOptions}
use Rattle.pz_words.specs.devices.Reading.{heard, heard_setting, value_of, is_free, behind, read_on}
use Rattle.pz_words.proofs.Outcomes.{some_same, none_some, when_some}
use Rattle.pz_words.proofs.Subjects.{AreFree, all_differ, free_at_first}
use Rattle.pz_words.proofs.Heard.{name_text, awaiting, IsWritten, said_written, name_awaits, name_read, seed_read, choices_read, steps_read, until_read, units_read}

-- the words are those of options that are free one after another, from what has been said on
pub record Adds (o : Options) (words : List (List ℕ)) (all : Options) : Type 0 where
  pub settings : List OptionWord
  pub written : words ≡ flat_map words_of settings
  pub allowed : All IsAllowed settings
  pub free : AreFree o settings
  pub meant : all ≡ said_with o settings

abbrev further : List (List ℕ) → Options → Option Valued → Option Options
further ws next wanted = read_on next wanted ws

module _ where
  added : (o : Options) (s : OptionWord) (before words : List (List ℕ)) (all : Options) → IsWritten before s → is_free s o ≡ true → Adds (with_option s o) words all → Adds o (before ++ words) all
  added o s before words all is free rest = record {
    settings = s ∷ rest.settings;
    written = ap (λ (ws : List (List ℕ)). ws ++ words) (sym is.written) ∙ ap (λ (ws : List (List ℕ)). words_of s ++ ws) rest.written;
    allowed = All-cons IsAllowed s rest.settings is.allowed rest.allowed;
    free = (free, rest.free);
    meant = rest.meant;
  }

  joined : (a : Option Valued) (w : List ℕ) (ws : List (List ℕ)) → ((awaiting a ++ w ∷ []) ++ ws) ≡ (awaiting a ++ w ∷ ws)
  joined a w ws = append_assoc (awaiting a) (w ∷ []) ws

  heard_sound : (w : List ℕ) (ws : List (List ℕ)) (o : Options) (a : Option Valued) (all : Options) → ((next : Options) (wanted : Option Valued) → read_on next wanted ws ≡ Some all → Adds next (awaiting wanted ++ ws) all)
      → (h : Heard) → heard a w ≡ h → behind (further ws) o h ≡ Some all → Adds o (awaiting a ++ w ∷ ws) all
  heard_sound w ws o a all rest (Says s) is e =
      let goes = when_some (is_free s o) (read_on (with_option s o) None ws) all e in
      subst (λ (v : List (List ℕ)). Adds o v all) (joined a w ws)
      (added o s (awaiting a ++ w ∷ []) ws all (said_written a w s is) goes.0 (rest (with_option s o) None goes.1))
  heard_sound w ws o a all rest (Names v) is e =
      subst (λ (u : List (List ℕ)). Adds o u all) (ap (λ (u : List (List ℕ)). u ++ ws) (sym (name_awaits a w v is)) ∙ joined a w ws)
      (rest o (Some v) e)
  heard_sound w ws o a all rest Nothing is e = absurd (none_some all e)

  pub sound : (words : List (List ℕ)) (o : Options) (a : Option Valued) (all : Options) → read_on o a words ≡ Some all → Adds o (awaiting a ++ words) all
  sound [] o None all e = record { settings = []; written = refl; allowed = All-nil IsAllowed; free = tt; meant = sym (some_same o all e) }
  sound [] o (Some v) all e = absurd (none_some all e)
  sound (w ∷ ws) o a all e = heard_sound w ws o a all (λ next wanted. sound ws next wanted all) (heard a w) refl e

  -- an option with a value, read in two words
  valued_read : (o : Options) (v : Valued) (w : List ℕ) (s : OptionWord) (ws : List (List ℕ)) → value_of v w ≡ Some s → read_on o None (name_text v ∷ w ∷ ws) ≡ (if is_free s o then read_on (with_option s o) None ws else None)
  valued_read o v w s ws is =
      ap (behind (further (w ∷ ws)) o) (name_read v)
      ∙ ap (λ (x : Option OptionWord). behind (further ws) o (heard_setting x)) is

  option_read : (o : Options) (s : OptionWord) (ws : List (List ℕ)) → IsAllowed s → read_on o None (words_of s ++ ws) ≡ (if is_free s o then read_on (with_option s o) None ws else None)
  option_read o (Chooses choice.First) ws is = refl
  option_read o (Chooses (choice.Seed n)) ws is = valued_read o option.Seed (decimal n) (Chooses (choice.Seed n)) ws (seed_read n is)
  option_read o (Chooses (choice.List ns)) ws is = valued_read o option.Choices (listed ns) (Chooses (choice.List ns)) ws (choices_read ns is)
  option_read o (Steps n) ws is = valued_read o option.Steps (decimal n) (Steps n) ws (steps_read n is)
  option_read o (Until n) ws is = valued_read o option.Until (decimal n) (Until n) ws (until_read n is)
  option_read o (Units n) ws is = valued_read o option.Units (decimal n) (Units n) ws (units_read n is)
  option_read o Summary ws is = refl

  complete : (ss : List OptionWord) (o : Options) → All IsAllowed ss → AreFree o ss → read_on o None (flat_map words_of ss) ≡ Some (said_with o ss)
  complete [] o allowed free = refl
  complete (s ∷ ss) o allowed free =
      option_read o s (flat_map words_of ss) (All-head IsAllowed s ss allowed)
      ∙ cond-true (is_free s o) _ _ free.0
      ∙ complete ss (with_option s o) (All-tail IsAllowed s ss allowed) free.1

  pub options_read : (words : List (List ℕ)) (o : Options) → AreOptions words o → read_on nothing_said None words ≡ Some o
  options_read words o are =
      ap (read_on nothing_said None) are.written
      ∙ complete are.settings nothing_said are.allowed (free_at_first are.settings are.once)
      ∙ ap (λ (x : Options). Some x) (sym are.meant)

  pub are_options : (words : List (List ℕ)) (o : Options) → read_on nothing_said None words ≡ Some o → AreOptions words o
  are_options words o e =
      let adds = sound words nothing_said None o e in
      record { settings = adds.settings; written = adds.written; allowed = adds.allowed; once = all_differ nothing_said adds.settings adds.free; meant = adds.meant }
