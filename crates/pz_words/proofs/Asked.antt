-- The job that is read is the one that is asked for.
use Rattle.std.proofs.Common.{◌≡◌, refl, sym, ◌∙◌, ap, subst, ℕ, ◌≤◌, true, false, not, List, [], ◌∷◌, length, map, take, drop, get_or, ◌-◌, Option, Some, None, Ok, Err, Result, inl, inr, arith}
use Rattle.std.specs.Prelude.{◌⊎◌, ◌&&◌, IsTrue, IfOk, if◌then◌else◌, bytes_eq, codes, option_map}
use Rattle.std.specs.Fmt.{decimal}
use Rattle.std.proofs.lemmas.Bool.{cond-false}
use Rattle.std.proofs.lemmas.List.{take_all}
use Rattle.pz_words.specs.declared.jobs.Choice.TheVariants as choice
use Rattle.pz_words.specs.declared.jobs.Job.{Job}
use Rattle.pz_words.specs.declared.words.Pair.{Pair}
use Rattle.pz_words.specs.declared.jobs.Job.TheVariants.{Run, Menu, Replay, Check, Make, Ring, Format, Watch, Drive}
use Rattle.pz_words.specs.Jobs.{station_limit}
use Rattle.pz_words.specs.declared.options.Options.{Options}
use Rattle.pz_words.specs.Options.{nothing_said, AreOptions}
use Rattle.pz_words.specs.Jobs.{choice_or, units_of, limits_of, is_name, IsRingSize, OnlyUnits, Asks, IsAsked, run, menu, replay, check, make, ring, format, watch, drive}
use Rattle.pz_words.specs.devices.Reading.{only_if, then_maybe, is_none, name_of, stations_of, read_on, says_only_units, units_in, run_of, menu_of, replay_of, check_of, make_of, ring_of, format_of, unsummed, as_pair, pair_of, watches_of, drives_of, watch_of, drive_of, job_of, job_in}
use Rattle.pz_words.proofs.Outcomes.{some_same, none_some, only_if_some, only_if_true, then_some, map_some, both_true, not_true, unless_some, by_word, none_is}
use Rattle.pz_words.proofs.Numerals.{between_found, is_between}
use Rattle.pz_words.proofs.Settings.{options_read, are_options}

module _ where
  name_there : (w : List ℕ) → IsTrue (is_name w) → name_of w ≡ Some w
  name_there w is = only_if_true (is_name w) w is

  is_there : (w v : List ℕ) → name_of w ≡ Some v → IsTrue (is_name w) × (w ≡ v)
  is_there w v e = only_if_some (is_name w) w v e

  size_there : (n : ℕ) → IsRingSize n → stations_of (decimal n) ≡ Some n
  size_there n is = between_found 2 station_limit n (decimal n) (record { digits = refl; short = let high = is.most in omega (arith, high) }) is.least is.most

  is_size : (w : List ℕ) (n : ℕ) → stations_of w ≡ Some n → (w ≡ decimal n) × IsRingSize n
  is_size w n e =
      let is = is_between 2 station_limit n w e in
      (is.0.digits, record { least = is.1; most = is.2 })

  only_units : (o : Options) → OnlyUnits o → says_only_units o ≡ true
  only_units o only =
      ap (λ x. is_none x && (is_none o.steps && (is_none o.until && not o.summary))) only.choice
      ∙ ap (λ x. is_none x && (is_none o.until && not o.summary)) only.steps
      ∙ ap (λ x. is_none x && not o.summary) only.until
      ∙ ap not only.summary

  are_only_units : (o : Options) → says_only_units o ≡ true → OnlyUnits o
  are_only_units o e =
      let one = both_true _ _ e in
      let two = both_true _ _ one.1 in
      let three = both_true _ _ two.1 in
      record { choice = none_is _ one.0; steps = none_is _ two.0; until = none_is _ three.0; summary = not_true _ three.1 }

  pair_read : (model second : List ℕ) (options : List (List ℕ)) (o : Options) → IsTrue (is_name model) → IsTrue (is_name second) → AreOptions options o → o.summary ≡ false
      → pair_of (model ∷ second ∷ options) ≡ Some (as_pair model second o)
  pair_read model second options o name other are plain =
      let told : unsummed options ≡ Some o = ap (λ r. then_maybe r (λ o. if o.summary then None else Some o)) (options_read options o are) ∙ cond-false o.summary None (Some o) plain in
      ap (λ r. then_maybe r (λ (o : Options). then_maybe (name_of model) (λ name. option_map (λ (w : List ℕ). as_pair name w o) (name_of second)))) told
      ∙ ap (λ r. then_maybe r (λ name. option_map (λ (w : List ℕ). as_pair name w o) (name_of second))) (name_there model name)
      ∙ ap (option_map (λ (w : List ℕ). as_pair model w o)) (name_there second other)

  pub job_read : (words : List (List ℕ)) (j : Job) → Asks words j → job_in words ≡ Some j
  job_read _ _ (run model options o name are) =
      ap (λ r. then_maybe r (λ o. option_map (λ name. Run name (choice_or choice.First o) (limits_of o) o.summary) (name_of model))) (options_read options o are)
      ∙ ap (option_map (λ name. Run name (choice_or choice.First o) (limits_of o) o.summary)) (name_there model name)
  job_read _ _ (menu model options o name are plain) =
      ap (λ r. then_maybe r (λ o. if o.summary then None else option_map (λ name. Menu name (choice_or (choice.List []) o) (limits_of o)) (name_of model))) (options_read options o are)
      ∙ cond-false o.summary _ _ plain
      ∙ ap (option_map (λ name. Menu name (choice_or (choice.List []) o) (limits_of o))) (name_there model name)
  job_read _ _ (replay model trace options o name other are only) =
      ap (λ r. then_maybe (then_maybe r (λ o. only_if (says_only_units o) (units_of o))) (λ units. then_maybe (name_of model) (λ name. option_map (λ t. Replay name t units) (name_of trace)))) (options_read options o are)
      ∙ ap (λ r. then_maybe r (λ units. then_maybe (name_of model) (λ name. option_map (λ t. Replay name t units) (name_of trace)))) (only_if_true (says_only_units o) (units_of o) (only_units o only))
      ∙ ap (λ r. then_maybe r (λ name. option_map (λ t. Replay name t (units_of o)) (name_of trace))) (name_there model name)
      ∙ ap (option_map (λ t. Replay model t (units_of o))) (name_there trace other)
  job_read _ _ (check model name) = ap (option_map (λ name. Check name)) (name_there model name)
  job_read _ _ (make n size) = ap (option_map (λ n. Make n)) (size_there n size)
  job_read _ _ (ring n options o size are plain) =
      ap (λ r. then_maybe r (λ n. then_maybe (read_on nothing_said None options) (λ o. if o.summary then None else Some (Ring n (choice_or choice.First o) (limits_of o))))) (size_there n size)
      ∙ ap (λ r. then_maybe r (λ o. if o.summary then None else Some (Ring n (choice_or choice.First o) (limits_of o)))) (options_read options o are)
      ∙ cond-false o.summary _ _ plain
  job_read _ _ (format model name) = ap (option_map (λ name. Format name)) (name_there model name)
  job_read _ _ (watch model watches options o name other are plain) = ap (option_map watches_of) (pair_read model watches options o name other are plain)
  job_read _ _ (drive model script options o name other are plain) = ap (option_map drives_of) (pair_read model script options o name other are plain)

  run_asked : (words : List (List ℕ)) (j : Job) → run_of words ≡ Some j → Asks (codes "run" ∷ words) j
  run_asked [] j e = absurd (none_some j e)
  run_asked (model ∷ options) j e =
      let told = then_some (read_on nothing_said None options) _ j e in
      let made = map_some _ (name_of model) j told.2 in
      let is = is_there model made.0 made.1 in
      subst (Asks (codes "run" ∷ model ∷ options)) (ap (λ (name : List ℕ). Run name (choice_or choice.First told.0) (limits_of told.0) told.0.summary) is.1 ∙ made.2)
      (run model options told.0 is.0 (are_options options told.0 told.1))

  menu_asked : (words : List (List ℕ)) (j : Job) → menu_of words ≡ Some j → Asks (codes "menu" ∷ words) j
  menu_asked [] j e = absurd (none_some j e)
  menu_asked (model ∷ options) j e =
      let told = then_some (read_on nothing_said None options) _ j e in
      let plain = unless_some told.0.summary _ j told.2 in
      let made = map_some _ (name_of model) j plain.1 in
      let is = is_there model made.0 made.1 in
      subst (Asks (codes "menu" ∷ model ∷ options)) (ap (λ (name : List ℕ). Menu name (choice_or (choice.List []) told.0) (limits_of told.0)) is.1 ∙ made.2)
      (menu model options told.0 is.0 (are_options options told.0 told.1) plain.0)

  replay_asked : (words : List (List ℕ)) (j : Job) → replay_of words ≡ Some j → Asks (codes "replay" ∷ words) j
  replay_asked [] j e = absurd (none_some j e)
  replay_asked (model ∷ []) j e = absurd (none_some j e)
  replay_asked (model ∷ trace ∷ options) j e =
      let units = then_some (units_in options) _ j e in
      let told = then_some (read_on nothing_said None options) _ units.0 units.1 in
      let only = only_if_some (says_only_units told.0) (units_of told.0) units.0 told.2 in
      let first = then_some (name_of model) _ j units.2 in
      let made = map_some _ (name_of trace) j first.2 in
      let is = is_there model first.0 first.1 in
      let other = is_there trace made.0 made.1 in
      subst (Asks (codes "replay" ∷ model ∷ trace ∷ options))
      (ap (λ (name : List ℕ). Replay name trace (units_of told.0)) is.1 ∙ ap (λ (name : List ℕ). Replay first.0 name (units_of told.0)) other.1 ∙ ap (λ (n : ℕ). Replay first.0 made.0 n) only.1 ∙ made.2)
      (replay model trace options told.0 is.0 other.0 (are_options options told.0 told.1) (are_only_units told.0 only.0))

  check_asked : (words : List (List ℕ)) (j : Job) → check_of words ≡ Some j → Asks (codes "check" ∷ words) j
  check_asked [] j e = absurd (none_some j e)
  check_asked (model ∷ []) j e =
      let made = map_some _ (name_of model) j e in
      let is = is_there model made.0 made.1 in
      subst (Asks (codes "check" ∷ model ∷ [])) (ap (λ (name : List ℕ). Check name) is.1 ∙ made.2) (check model is.0)
  check_asked (model ∷ other ∷ words) j e = absurd (none_some j e)

  make_asked : (words : List (List ℕ)) (j : Job) → make_of words ≡ Some j → Asks (codes "make" ∷ words) j
  make_asked [] j e = absurd (none_some j e)
  make_asked (size ∷ []) j e =
      let made = map_some _ (stations_of size) j e in
      let is = is_size size made.0 made.1 in
      subst (λ (w : List ℕ). Asks (codes "make" ∷ w ∷ []) j) (sym is.0)
      (subst (Asks (codes "make" ∷ decimal made.0 ∷ [])) made.2 (make made.0 is.1))
  make_asked (size ∷ other ∷ words) j e = absurd (none_some j e)

  ring_asked : (words : List (List ℕ)) (j : Job) → ring_of words ≡ Some j → Asks (codes "ring" ∷ words) j
  ring_asked [] j e = absurd (none_some j e)
  ring_asked (size ∷ options) j e =
      let sized = then_some (stations_of size) _ j e in
      let told = then_some (read_on nothing_said None options) _ j sized.2 in
      let plain = unless_some told.0.summary _ j told.2 in
      let is = is_size size sized.0 sized.1 in
      subst (λ (w : List ℕ). Asks (codes "ring" ∷ w ∷ options) j) (sym is.0)
      (subst (Asks (codes "ring" ∷ decimal sized.0 ∷ options)) (some_same _ _ plain.1)
      (ring sized.0 options told.0 is.1 (are_options options told.0 told.1) plain.0))

  format_asked : (words : List (List ℕ)) (j : Job) → format_of words ≡ Some j → Asks (codes "format" ∷ words) j
  format_asked [] j e = absurd (none_some j e)
  format_asked (model ∷ []) j e =
      let made = map_some _ (name_of model) j e in
      let is = is_there model made.0 made.1 in
      subst (Asks (codes "format" ∷ model ∷ [])) (ap (λ (name : List ℕ). Format name) is.1 ∙ made.2) (format model is.0)
  format_asked (model ∷ other ∷ words) j e = absurd (none_some j e)

  -- of a job that is done with two files
  pair_asked : (job_of_pair : Pair → Job) (command : List ℕ)
      → ((model second : List ℕ) (options : List (List ℕ)) (o : Options) → IsTrue (is_name model) → IsTrue (is_name second) → AreOptions options o → o.summary ≡ false
      → Asks (command ∷ model ∷ second ∷ options) (job_of_pair (as_pair model second o)))
      → (words : List (List ℕ)) (j : Job) → option_map job_of_pair (pair_of words) ≡ Some j → Asks (command ∷ words) j
  pair_asked job_of_pair command asks [] j e = absurd (none_some j e)
  pair_asked job_of_pair command asks (model ∷ []) j e = absurd (none_some j e)
  pair_asked job_of_pair command asks (model ∷ second ∷ options) j e =
      let whole = map_some job_of_pair (pair_of (model ∷ second ∷ options)) j e in
      let kept = then_some (unsummed options) _ whole.0 whole.1 in
      let told = then_some (read_on nothing_said None options) _ kept.0 kept.1 in
      let plain = unless_some told.0.summary _ kept.0 told.2 in
      let same : told.0 ≡ kept.0 = some_same told.0 kept.0 plain.1 in
      let first = then_some (name_of model) _ whole.0 kept.2 in
      let made = map_some _ (name_of second) whole.0 first.2 in
      let is = is_there model first.0 first.1 in
      let other = is_there second made.0 made.1 in
      subst (Asks (command ∷ model ∷ second ∷ options))
      (ap (λ (o : Options). job_of_pair (as_pair model second o)) same
      ∙ ap (λ (name : List ℕ). job_of_pair (as_pair name second kept.0)) is.1
      ∙ ap (λ (name : List ℕ). job_of_pair (as_pair first.0 name kept.0)) other.1
      ∙ ap job_of_pair made.2 ∙ whole.2)
      (asks model second options told.0 is.0 other.0 (are_options options told.0 told.1) plain.0)

  watch_asked : (words : List (List ℕ)) (j : Job) → watch_of words ≡ Some j → Asks (codes "watch" ∷ words) j
  watch_asked = pair_asked watches_of (codes "watch") watch

  drive_asked : (words : List (List ℕ)) (j : Job) → drive_of words ≡ Some j → Asks (codes "drive" ∷ words) j
  drive_asked = pair_asked drives_of (codes "drive") drive

  asked : (command : List ℕ) (words : List (List ℕ)) (j : Job) → job_of command words ≡ Some j → Asks (command ∷ words) j
  asked command words j e = first (by_word command (codes "run") (run_of words) _ (Some j) e)
    where
      named : (name : List ℕ) → command ≡ name → Asks (name ∷ words) j → Asks (command ∷ words) j
      named name is asks = subst (λ (c : List ℕ). Asks (c ∷ words) j) (sym is) asks

      ninth : ((command ≡ codes "drive") × (drive_of words ≡ Some j)) ⊎ (None ≡ Some j) → Asks (command ∷ words) j
      ninth (inl is) = named (codes "drive") is.0 (drive_asked words j is.1)
      ninth (inr never) = absurd (none_some j never)

      eighth : ((command ≡ codes "watch") × (watch_of words ≡ Some j)) ⊎ ((if bytes_eq command (codes "drive") then drive_of words else None) ≡ Some j) → Asks (command ∷ words) j
      eighth (inl is) = named (codes "watch") is.0 (watch_asked words j is.1)
      eighth (inr other) = ninth (by_word command (codes "drive") _ _ (Some j) other)

      seventh : ((command ≡ codes "format") × (format_of words ≡ Some j)) ⊎ ((if bytes_eq command (codes "watch") then watch_of words else (if bytes_eq command (codes "drive") then drive_of words else None)) ≡ Some j) → Asks (command ∷ words) j
      seventh (inl is) = named (codes "format") is.0 (format_asked words j is.1)
      seventh (inr other) = eighth (by_word command (codes "watch") _ _ (Some j) other)

      sixth : ((command ≡ codes "ring") × (ring_of words ≡ Some j)) ⊎ ((if bytes_eq command (codes "format") then format_of words else (if bytes_eq command (codes "watch") then watch_of words else (if bytes_eq command (codes "drive") then drive_of words else None))) ≡ Some j) → Asks (command ∷ words) j
      sixth (inl is) = named (codes "ring") is.0 (ring_asked words j is.1)
      sixth (inr other) = seventh (by_word command (codes "format") _ _ (Some j) other)

      fifth : ((command ≡ codes "make") × (make_of words ≡ Some j)) ⊎ ((if bytes_eq command (codes "ring") then ring_of words else (if bytes_eq command (codes "format") then format_of words else (if bytes_eq command (codes "watch") then watch_of words else (if bytes_eq command (codes "drive") then drive_of words else None)))) ≡ Some j) → Asks (command ∷ words) j
      fifth (inl is) = named (codes "make") is.0 (make_asked words j is.1)
      fifth (inr other) = sixth (by_word command (codes "ring") _ _ (Some j) other)

      fourth : ((command ≡ codes "check") × (check_of words ≡ Some j)) ⊎ ((if bytes_eq command (codes "make") then make_of words else (if bytes_eq command (codes "ring") then ring_of words else (if bytes_eq command (codes "format") then format_of words else (if bytes_eq command (codes "watch") then watch_of words else (if bytes_eq command (codes "drive") then drive_of words else None))))) ≡ Some j) → Asks (command ∷ words) j
      fourth (inl is) = named (codes "check") is.0 (check_asked words j is.1)
      fourth (inr other) = fifth (by_word command (codes "make") _ _ (Some j) other)

      third : ((command ≡ codes "replay") × (replay_of words ≡ Some j)) ⊎ ((if bytes_eq command (codes "check") then check_of words else (if bytes_eq command (codes "make") then make_of words else (if bytes_eq command (codes "ring") then ring_of words else (if bytes_eq command (codes "format") then format_of words else (if bytes_eq command (codes "watch") then watch_of words else (if bytes_eq command (codes "drive") then drive_of words else None)))))) ≡ Some j) → Asks (command ∷ words) j
      third (inl is) = named (codes "replay") is.0 (replay_asked words j is.1)
      third (inr other) = fourth (by_word command (codes "check") _ _ (Some j) other)

      second : ((command ≡ codes "menu") × (menu_of words ≡ Some j)) ⊎ ((if bytes_eq command (codes "replay") then replay_of words else (if bytes_eq command (codes "check") then check_of words else (if bytes_eq command (codes "make") then make_of words else (if bytes_eq command (codes "ring") then ring_of words else (if bytes_eq command (codes "format") then format_of words else (if bytes_eq command (codes "watch") then watch_of words else (if bytes_eq command (codes "drive") then drive_of words else None))))))) ≡ Some j) → Asks (command ∷ words) j
      second (inl is) = named (codes "menu") is.0 (menu_asked words j is.1)
      second (inr other) = third (by_word command (codes "replay") _ _ (Some j) other)

      first : ((command ≡ codes "run") × (run_of words ≡ Some j)) ⊎ ((if bytes_eq command (codes "menu") then menu_of words else (if bytes_eq command (codes "replay") then replay_of words else (if bytes_eq command (codes "check") then check_of words else (if bytes_eq command (codes "make") then make_of words else (if bytes_eq command (codes "ring") then ring_of words else (if bytes_eq command (codes "format") then format_of words else (if bytes_eq command (codes "watch") then watch_of words else (if bytes_eq command (codes "drive") then drive_of words else None)))))))) ≡ Some j) → Asks (command ∷ words) j
      first (inl is) = named (codes "run") is.0 (run_asked words j is.1)
      first (inr other) = second (by_word command (codes "menu") _ _ (Some j) other)

  pub job_asked : (words : List (List ℕ)) (j : Job) → job_in words ≡ Some j → Asks words j
  job_asked [] j e = absurd (none_some j e)
  job_asked (command ∷ words) j e = asked command words j e

  pub reads : (words : List (List ℕ)) (o : Option Job) → o ≡ job_in words → IsAsked words o
  reads words o is = λ j. ((λ e. job_asked words j (sym is ∙ e)), (λ asks. is ∙ job_read words j asks))

  pub answered : {E : Type 0} (words : List (List ℕ)) (r : Result (Option Job) E) → IfOk r (λ found. found ≡ job_in words) → IfOk r (λ found. IsAsked words found)
  answered words (Ok o) is = reads words o is
  answered words (Err e) is = tt

  pub job_first : {W : Type 0} (text : W → List ℕ) (words : List W) (w : W) → 1 ≤ length words → w ≡ get_or words 0 w → job_of (text w) (map text (take (length words - 1) (drop 1 words))) ≡ job_in (map text words)
  job_first text [] w some is = absurd (omega (arith, some))
  job_first text (v ∷ vs) w some is = ap (λ us. job_of (text w) (map text us)) (take_all (length (v ∷ vs) - 1) vs (omega arith)) ∙ ap (λ x. job_of (text x) (map text vs)) is

  pub one_job : (words : List (List ℕ)) (a b : Job) → Asks words a → Asks words b → a ≡ b
  one_job words a b asks also = some_same a b (sym (job_read words a asks) ∙ job_read words b also)
