-- The lines of both are the same.
use Rattle.std.proofs.Common.{◌≡◌, ◌+◌, ◌<◌, ◌≤◌, ◌⊎◌, inl, inr, ℕ, Bool, true, false, List, [], ◌∷◌, ◌++◌, length, Option, codes, nat_eq, if◌then◌else◌, flat_map, refl, sym, ap, ◌∙◌, arith, decimal, length-append}
use Rattle.std.specs.Option.{option_map_or}
use Rattle.std.proofs.lemmas.Bool.{cases_lt, eq-eqb, eqb-true}
use Rattle.std.proofs.lemmas.Option.{slice_get_past}
use Rattle.pz_env_tree.specs.pz_syntax.declared.tokens.Pos.{Pos}
use Rattle.pz_env_tree.specs.pz_syntax.Classes.{ModelTree}
use Rattle.pz_env_tree.specs.pz_classes_rules.ClassNames.{class_names}
use Rattle.pz_bind_levels.specs.Places.{Address}
use Rattle.pz_env_tree.specs.pz_bind_rules.Nest.{processes}
use Rattle.pz_env_tree.specs.pz_bind_rules.Names.{path}
use Rattle.pz_env_tree.specs.pz_copy.Parcels.{ParcelView}
use Rattle.pz_env_tree.specs.pz_copy.ParcelText.{parcel_text}
use Rattle.pz_env_tree.specs.pz_offer.declared.trouble.Trouble.{Trouble}
use Rattle.pz_env_tree.specs.pz_offer.declared.trouble.Trouble.TheVariants.{Fault, Spent, High}
use Rattle.pz_env_tree.specs.pz_rules.declared.action.Action.{Action}
use Rattle.pz_env_tree.specs.pz_rules.Runs.{Event}
use Rattle.pz_env_tree.specs.pz_trace.declared.ending.Ending.{Ending}
use Rattle.pz_env_tree.specs.pz_trace.declared.ending.Ending.TheVariants as ending
use Rattle.pz_env_tree.specs.pz_trace.Words.{kind_word, fault_word, pos_text}
use Rattle.pz_env_tree.specs.pz_trace.Labels as labels
use Rattle.pz_env_tree.specs.pz_trace.Labels.{path_of, wire_of}
use Rattle.pz_env_tree.specs.pz_trace.Lines as trace
use Rattle.pz_env_tree.specs.pz_trace.Lines.{newline}
use Rattle.pz_env_tree.specs.pz_trace.TraceText as trace_text
use Rattle.pz_env_tree.specs.pz_trace.TraceText.{events_text}
use Rattle.pz_env_tree.specs.pz_env_rules.Joining.{Driving}
use Rattle.pz_env_tree.specs.pz_env_rules.Driven.{environment_number}
use Rattle.pz_env_tree.specs.pz_env_rules.Text as text
use Rattle.pz_env_tree.specs.pz_env_rules.Text.{path_in}
use Rattle.pz_env_mimics.specs.Environments.{HasEnvironment}
use Rattle.pz_env_mimics.specs.Closing as closing
use Rattle.pz_env_mimics.specs.Closing.{SameEnd, SameAction, SameEvent, SameEvents}

never : (b : Bool) → (b ≡ true → ⊥) → b ≡ false
never true apart = absurd (apart refl)
never false apart = refl

module _ (g : Driving) (n : ModelTree) (has : HasEnvironment g n) where
  abbrev env : ℕ
  env = environment_number g

  no_path : (m : ModelTree) (i : ℕ) → length (processes m) ≤ i → path_of m i ≡ []
  no_path m i past =
      ap (λ (o : Option Address). option_map_or (path m) o []) (slice_get_past (processes m) i past)

  other_path : (i : ℕ) → nat_eq i env ≡ false → path_in g i ≡ path_of g.setting.model i
  other_path i is = ap (λ (b : Bool). if b then codes "env" else path_of g.setting.model i) is

  pub same_path : (i : ℕ) → path_in g i ≡ path_of n i
  same_path i = by (cases_lt i env) (cases_lt env i)
    where
      apart : (i ≡ env → ⊥) → nat_eq i env ≡ false
      apart different = never (nat_eq i env) (λ e. different (eqb-true i env e))

      by : (i < env) ⊎ (env ≤ i) → (env < i) ⊎ (i ≤ env) → path_in g i ≡ path_of n i
      by (inl low) other = other_path i (apart (λ e. omega (arith, low, e))) ∙ sym (has.paths i low)
      by (inr high) (inl past) =
          let long : length (processes n) ≡ env + 1 = ap (λ (ps : List Address). length ps) has.one_more ∙ length-append (processes g.setting.model) (has.place ∷ []) in
          other_path i (apart (λ e. omega (arith, past, e)))
          ∙ no_path g.setting.model i (omega (arith, past))
          ∙ sym (no_path n i (omega (arith, past, long)))
      by (inr high) (inr low) =
          let same : i ≡ env = omega (arith, high, low) in
          ap (λ (b : Bool). if b then codes "env" else path_of g.setting.model i) (eq-eqb i env same)
          ∙ sym has.path
          ∙ ap (path_of n) (sym same)

  same_spot : (i : ℕ) (at : Pos) → text.spot g i at ≡ labels.spot n i at
  same_spot i at = ap (λ (p : List ℕ). p ++ (codes " " ++ pos_text at)) (same_path i)

  -- Labels

  same_sending : (i : ℕ) (message : List ℕ) (parcel : ParcelView) → text.sending g i message parcel ≡ labels.sending n i message parcel
  same_sending i message parcel =
      ap (λ (p : List ℕ). p ++ (codes " ! " ++ (message ++ parcel_text (class_names g.setting.model ++ codes "ScriptEnv" ∷ []) parcel))) (same_path i)
      ∙ ap (λ (names : List (List ℕ)). path_of n i ++ (codes " ! " ++ (message ++ parcel_text names parcel))) (sym has.classes)

  pub same_label : (a b : Action) → SameAction g a b → text.label g a ≡ labels.label n b
  same_label _ _ (closing.internal a b kind pos same) =
      ap (λ (i : ℕ). path_in g i ++ (codes " " ++ (kind_word kind ++ (codes " " ++ pos_text pos)))) same.process
      ∙ ap (λ (p : List ℕ). p ++ (codes " " ++ (kind_word kind ++ (codes " " ++ pos_text pos)))) (same_path b.process)
  same_label _ _ (closing.communication wire s t r u message parcel same are) =
      ap (λ (w : List ℕ). w ++ (codes " " ++ (text.sending g s.process message parcel ++ (codes " -> " ++ path_in g r.process)))) (sym (has.wire_names wire))
      ∙ ap (λ (i : ℕ). wire_of n wire ++ (codes " " ++ (text.sending g i message parcel ++ (codes " -> " ++ path_in g r.process)))) same.process
      ∙ ap (λ (x : List ℕ). wire_of n wire ++ (codes " " ++ (x ++ (codes " -> " ++ path_in g r.process)))) (same_sending t.process message parcel)
      ∙ ap (λ (i : ℕ). wire_of n wire ++ (codes " " ++ (labels.sending n t.process message parcel ++ (codes " -> " ++ path_in g i)))) are.process
      ∙ ap (λ (p : List ℕ). wire_of n wire ++ (codes " " ++ (labels.sending n t.process message parcel ++ (codes " -> " ++ p)))) (same_path u.process)

  -- Lines

  pub same_line : (e f : Event) → SameEvent g e f → text.event_line g e ≡ trace_text.event_line n f
  same_line _ _ (closing.acted clock count number a b same) =
      ap (λ (l : List ℕ). decimal clock ++ (codes " " ++ (decimal count ++ (codes " " ++ (decimal number ++ (codes " " ++ (l ++ newline))))))) (same_label a b same)
  same_line _ _ (closing.passed clock time) = refl

  pub same_lines : (es fs : List Event) → SameEvents g es fs → flat_map (text.event_line g) es ≡ events_text n fs
  same_lines [] [] same = refl
  same_lines [] (f ∷ fs) same = absurd same
  same_lines (e ∷ es) [] same = absurd same
  same_lines (e ∷ es) (f ∷ fs) same =
      ap (λ (l : List ℕ). l ++ flat_map (text.event_line g) es) (same_line e f same.0)
      ∙ ap (λ (l : List ℕ). trace_text.event_line n f ++ l) (same_lines es fs same.1)

  same_trouble : (t : Trouble) → text.trouble_words g t ≡ trace.trouble_words n t
  same_trouble (Fault kind process at) =
      ap (λ (s : List ℕ). codes "fault " ++ (fault_word kind ++ (codes " " ++ s))) (same_spot process at)
  same_trouble (Spent process at) = ap (λ (s : List ℕ). codes "spent " ++ s) (same_spot process at)
  same_trouble (High process at) = ap (λ (s : List ℕ). codes "high " ++ s) (same_spot process at)

  same_end_words : (e : Ending) → text.end_words g e ≡ trace.end_words n e
  same_end_words ending.End = refl
  same_end_words ending.Deadlock = refl
  same_end_words ending.Stop = refl
  same_end_words (ending.Trouble t) = same_trouble t

  pub same_end_line : (clock : ℕ) (e : Ending) → text.end_line g clock e ≡ trace.end_line n clock e
  same_end_line clock e =
      ap (λ (words : List ℕ). decimal clock ++ (codes " " ++ (words ++ newline))) (same_end_words e)
