-- In a session of a sound model each command has a reply.
use Rattle.std.proofs.Common.{◌≡◌, ◌⊎◌, inl, inr, ⊎_elim, ◌≤◌, ◌<◌, ◌-◌, ℕ, zero, suc, Bool, true, false, List, [], ◌∷◌, ◌++◌, length, take, get_or, Option, Some, None, refl, sym, ap, subst, ◌∙◌, arith}
use Rattle.pz_classes_code.specs.Places.{place_in}
use Rattle.std.specs.Str.{bytes_eq}
use Rattle.std.proofs.lemmas.List.{append-nil}
use Rattle.std.proofs.lemmas.Option.{slice_get-get_or, slice_get_within}
use Rattle.std.proofs.lemmas.Slice.Eq.{bytes_eq-Decides}
use Rattle.pz_classes_code.specs.pz_syntax.Classes.{ModelTree}
use Rattle.pz_rules.specs.pz_classes_rules.Soundness.{IsSound}
use Rattle.pz_rules.specs.pz_classes_rules.Members.{variables, spelled}
use Rattle.pz_rules.specs.pz_bind_rules.Nest.{processes, class_at}
use Rattle.pz_trace.specs.Labels.{path_of}
use Rattle.pz_rules.specs.declared.action.Action.{Action}
use Rattle.pz_rules.specs.declared.moment.Moment.{Moment}
use Rattle.pz_rules.specs.declared.moment.Moment.TheVariants.{Actions, Time, Finished, Deadlock, Faulty, Stopped, Broken}
use Rattle.pz_rules.specs.Settings.{Setting, Process}
use Rattle.pz_rules.specs.Runs.{whole}
use Rattle.pz_rules.specs.Terms.{done}
use Rattle.pz_trace.specs.declared.ending.Ending.TheVariants as ending
use Rattle.pz_trace.specs.Lines.{action_line}
use Rattle.pz_term_simulator.specs.Simulations as simulations
use Rattle.pz_term_simulator.specs.Simulations.{Simulation, stands, IsMomentOf, IsOffer, clock_in}
use Rattle.pz_debug_commands.specs.Commands.{Command, menu, pick, pass, run, until, back, show, unknown}
use Rattle.pz_debug_session.specs.declared.step.Step.{Step}
use Rattle.pz_debug_session.specs.declared.step.Step.TheVariants.{Pick, Pass}
use Rattle.pz_debug_session.specs.Steps.{StandsAfter}
use Rattle.pz_debug_replies.specs.Lines.{refused_show_line}
use Rattle.pz_debug_replies.specs.Shown.{IsVariable}
use Rattle.pz_debug_replies.specs.Advancing.{is_wanted, Advances, used_up, held, passes, acts, found}
use Rattle.pz_debug_replies.specs.Replies as replies
use Rattle.pz_debug_replies.specs.Replies.{Replies}
use Rattle.pz_debug_replies.specs.Sessions.{none, more, IsSessionText}
use Rattle.pz_debug_replies.specs.Laws.{HasAdvance, HasReply, HaveReplies, EveryAdvance, EveryReply, EveryText, EverySession}
use Rattle.pz_debug_replies.specs.devices.Known.{Known}
use Rattle.pz_debug_replies.specs.devices.Searching.{IsFirst}
use Rattle.pz_debug_replies.proofs.Places.{le_or_lt, placed_fits, some_moment, some_passing, some_choosing, some_offer, some_first, never_broken}
use Rattle.pz_debug_replies.proofs.Parcels.{some_parcel}
use Rattle.pz_debug_replies.proofs.Searched.{none_named, no_variable, a_variable}

some_process : Process
some_process = record { term = done; state = record { vars = []; frames = []; objects = [] } }

module _ (known : Known) (setting : Setting) (sound : IsSound setting.model) where
  -- steps that a session takes by itself

  module _ (wanted : Option (List ℕ)) where
    -- they begin with this line
    pub record BeginsWith (n : ℕ) (xs : List Step) (line : List ℕ) : Type 0 where
      pub rest : List ℕ
      pub steps : List Step
      pub to : Simulation
      pub advances : Advances setting wanted (suc n) xs (line ++ rest) steps
      pub leads : StandsAfter setting steps to

    abbrev Later : ℕ → Type 0
    Later n = (ys : List Step) (t : Simulation) → StandsAfter setting ys t → HasAdvance setting wanted n ys

    acting : (n k : ℕ) (a : Action) (xs : List Step) (s : Simulation) → StandsAfter setting xs s → IsMomentOf s (Actions k) → IsOffer s 0 a → Later n
        → (b : Bool) → is_wanted wanted a ≡ b → BeginsWith n xs (action_line setting.model (clock_in s) k 0 a)
    acting n k a xs s x is offers later true wants =
        let t = some_choosing known setting sound xs s k 0 x is (some_first known setting xs s k x is) in
        let line = action_line setting.model (clock_in s) k 0 a in
        record {
          rest = [];
          steps = xs ++ Pick 0 ∷ [];
          to = t.0;
          advances = subst (λ (l : List ℕ). Advances setting wanted (suc n) xs l (xs ++ Pick 0 ∷ [])) (sym (append-nil line)) (found n k a xs s x is offers wants);
          leads = known.chosen setting xs 0 s t.0 x t.1;
        }
    acting n k a xs s x is offers later false wants =
        let t = some_choosing known setting sound xs s k 0 x is (some_first known setting xs s k x is) in
        let y = later (xs ++ Pick 0 ∷ []) t.0 (known.chosen setting xs 0 s t.0 x t.1) in
        record { rest = y.text; steps = y.steps; to = y.to; advances = acts n k a xs y.steps y.text s x is offers wants y.advances; leads = y.leads }

    by_moment : (n : ℕ) (xs : List Step) (s : Simulation) → StandsAfter setting xs s → (m : Moment) → IsMomentOf s m → Later n → HasAdvance setting wanted (suc n) xs
    by_moment n xs s x (Actions k) is later =
        let a = some_offer known s k 0 is (some_first known setting xs s k x is) in
        let y = acting n k a.0 xs s x is a.1 later (is_wanted wanted a.0) refl in
        record { text = action_line setting.model (clock_in s) k 0 a.0 ++ y.rest; steps = y.steps; advances = y.advances; to = y.to; leads = y.leads }
    by_moment n xs s x (Time d) is later =
        let t = some_passing known setting sound xs s d x is in
        let y = later (xs ++ Pass ∷ []) t.0 (known.passed setting xs s t.0 x t.1) in
        record { text = _; steps = y.steps; advances = passes n d xs y.steps y.text s x is y.advances; to = y.to; leads = y.leads }
    by_moment n xs s x Finished is later = record { text = []; steps = xs; advances = held n xs s Finished x is tt tt; to = s; leads = x }
    by_moment n xs s x Deadlock is later = record { text = []; steps = xs; advances = held n xs s Deadlock x is tt tt; to = s; leads = x }
    by_moment n xs s x (Faulty trouble) is later = record { text = []; steps = xs; advances = held n xs s (Faulty trouble) x is tt tt; to = s; leads = x }
    by_moment n xs s x (Stopped trouble) is later = record { text = []; steps = xs; advances = held n xs s (Stopped trouble) x is tt tt; to = s; leads = x }
    by_moment n xs s x Broken is later = record { text = []; steps = xs; advances = held n xs s Broken x is tt tt; to = s; leads = x }

    pub some_advance : (n : ℕ) (xs : List Step) (s : Simulation) → StandsAfter setting xs s → HasAdvance setting wanted n xs
    some_advance zero xs s x = record { text = []; steps = xs; advances = used_up xs; to = s; leads = x }
    some_advance (suc n) xs s x =
        let m = some_moment known setting sound xs s x in
        by_moment n xs s x m.0 m.1 (λ ys t y. some_advance n ys t y)

    -- once their first line is known
    pub acts_first : (n k : ℕ) (a : Action) (xs : List Step) (s : Simulation) → StandsAfter setting xs s → IsMomentOf s (Actions k) → IsOffer s 0 a → BeginsWith n xs (action_line setting.model (clock_in s) k 0 a)
    acts_first n k a xs s x is offers = acting n k a xs s x is offers (λ ys t y. some_advance n ys t y) (is_wanted wanted a) refl

  -- replies

  module _ (line : ℕ) (xs : List Step) (s : Simulation) (x : StandsAfter setting xs s) where
    stays : (c : Command) (text : List ℕ) → Replies setting line xs c text xs → HasReply setting line xs c
    stays c text y = record { text = text; steps = xs; replies = y; to = s; leads = x }

    some_menu : (m : Moment) → IsMomentOf s m → HasReply setting line xs menu
    some_menu (Actions n) is = let all = known.offers_there s n is in stays menu _ (replies.offered xs s n all.0 x is all.1)
    some_menu (Time d) is = stays menu _ (replies.waiting xs s d x is)
    some_menu Finished is = stays menu _ (replies.over xs s Finished ending.End x is refl)
    some_menu Deadlock is = stays menu _ (replies.over xs s Deadlock ending.Deadlock x is refl)
    some_menu (Faulty trouble) is = stays menu _ (replies.over xs s (Faulty trouble) (ending.Trouble trouble) x is refl)
    some_menu (Stopped trouble) is = stays menu _ (replies.over xs s (Stopped trouble) (ending.Trouble trouble) x is refl)
    some_menu Broken is = absurd (never_broken setting xs s Broken x is refl)

    picked : (n k : ℕ) → IsMomentOf s (Actions n) → (n ≤ k) ⊎ (k < n) → HasReply setting line xs (pick k)
    picked n k is (inl few) = stays (pick k) _ (replies.no_offer xs s k (Actions n) x is few)
    picked n k is (inr within) =
        let a = some_offer known s n k is within in
        let t = some_choosing known setting sound xs s n k x is within in
        record { text = _; steps = xs ++ Pick k ∷ []; replies = replies.picks xs s n k a.0 x is a.1; to = t.0; leads = known.chosen setting xs k s t.0 x t.1 }

    some_pick : (k : ℕ) (m : Moment) → IsMomentOf s m → HasReply setting line xs (pick k)
    some_pick k (Actions n) is = picked n k is (le_or_lt n k)
    some_pick k (Time d) is = stays (pick k) _ (replies.no_offer xs s k (Time d) x is (omega arith))
    some_pick k Finished is = stays (pick k) _ (replies.no_offer xs s k Finished x is (omega arith))
    some_pick k Deadlock is = stays (pick k) _ (replies.no_offer xs s k Deadlock x is (omega arith))
    some_pick k (Faulty trouble) is = stays (pick k) _ (replies.no_offer xs s k (Faulty trouble) x is (omega arith))
    some_pick k (Stopped trouble) is = stays (pick k) _ (replies.no_offer xs s k (Stopped trouble) x is (omega arith))
    some_pick k Broken is = stays (pick k) _ (replies.no_offer xs s k Broken x is (omega arith))

    some_pass : (m : Moment) → IsMomentOf s m → HasReply setting line xs pass
    some_pass (Time d) is =
        let t = some_passing known setting sound xs s d x is in
        record { text = _; steps = xs ++ Pass ∷ []; replies = replies.passes xs s d x is; to = t.0; leads = known.passed setting xs s t.0 x t.1 }
    some_pass (Actions n) is = stays pass _ (replies.no_passing xs s (Actions n) x is tt)
    some_pass Finished is = stays pass _ (replies.no_passing xs s Finished x is tt)
    some_pass Deadlock is = stays pass _ (replies.no_passing xs s Deadlock x is tt)
    some_pass (Faulty trouble) is = stays pass _ (replies.no_passing xs s (Faulty trouble) x is tt)
    some_pass (Stopped trouble) is = stays pass _ (replies.no_passing xs s (Stopped trouble) x is tt)
    some_pass Broken is = stays pass _ (replies.no_passing xs s Broken x is tt)

    some_run : (n : ℕ) → HasReply setting line xs (run n)
    some_run n = let y = some_advance None n xs s x in record { text = y.text; steps = y.steps; replies = replies.runs n xs y.steps y.text y.advances; to = y.to; leads = y.leads }

    some_until : (message : List ℕ) (n : ℕ) → HasReply setting line xs (until message n)
    some_until message n =
        let y = some_advance (Some message) n xs s x in
        record { text = y.text; steps = y.steps; replies = replies.runs_until message n xs y.steps y.text y.advances; to = y.to; leads = y.leads }

    some_back : (n : ℕ) → (n ≤ length xs) ⊎ (length xs < n) → HasReply setting line xs (back n)
    some_back n (inl within) =
        let t = known.fronts setting xs (length xs - n) s x in
        record { text = _; steps = take (length xs - n) xs; replies = replies.goes_back n xs t.0 within t.1; to = t.0; leads = t.1 }
    some_back n (inr past) = stays (back n) _ (replies.too_far n xs past)

    -- what is shown

    module _ (word name : List ℕ) where
      abbrev m : ModelTree
      m = setting.model

      -- none of so many processes has the path
      abbrev NoneOf : ℕ → Type 0
      NoneOf n = (j : ℕ) → j < n → path_of m j ≡ word → ⊥

      at_next : (n : ℕ) → n < length (processes m) → NoneOf n → (b : Bool) → bytes_eq (path_of m n) word ≡ b → ((i : ℕ) × IsFirst m word i) ⊎ NoneOf (suc n)
      at_next n within before true same = inl (n, record { there = within; is_path = (bytes_eq-Decides (path_of m n) word).0 same; first = before })
      at_next n within before false same =
          inr (λ j below is. ⊎_elim
          (λ (last : n ≤ j). let e : j ≡ n = omega (arith, last, below) in apart (sym ((bytes_eq-Decides (path_of m n) word).1 (ap (path_of m) (sym e) ∙ is)) ∙ same))
          (λ (earlier : j < n). before j earlier is)
          (le_or_lt n j))
        where
          apart : true ≡ false → ⊥
          apart e = cc

      searched : (n : ℕ) → n ≤ length (processes m) → ((i : ℕ) × IsFirst m word i) ⊎ NoneOf n
      searched zero within = inr (λ j below is. absurd (omega (arith, below)))
      searched (suc n) within = elim (searched n (omega (arith, within))) [ inl here ↦ inl here | inr before ↦ at_next n (omega (arith, within)) before (bytes_eq (path_of m n) word) refl ]

      -- where there is a variable, it holds a value
      holding : (i v : ℕ) → IsVariable m word name i v → HasReply setting line xs (show word name)
      holding i v is =
          let fits = placed_fits known setting sound xs s x in
          let below : i < length (processes m) = slice_get_within (processes m) i is.place is.is_process in
          let there : i < length x.end.processes = omega (arith, below, fits.all) in
          let process = get_or x.end.processes i some_process in
          let packed = some_parcel m process.state v known.some_parcel in
          stays (show word name) _ (replies.shows xs x.end x.standing word name i v packed.0 (subst (λ (t : Simulation). StandsAfter setting xs t) x.is_there x) is
          (record { process = process; stands = slice_get-get_or x.end.processes i some_process there; is_parcel = packed.1 }))

      found_in : (i : ℕ) (is : IsFirst m word i) (o : Option ℕ) → place_in (spelled (variables m (class_at m (get_or (processes m) i [])))) name ≡ o → HasReply setting line xs (show word name)
      found_in i is None absent = stays (show word name) refused_show_line (replies.shows_none xs word name (no_variable m word i is name absent))
      found_in i is (Some v) there = holding i v (a_variable m word i is name v there)

      some_show : HasReply setting line xs (show word name)
      some_show =
          elim (searched (length (processes m)) (omega arith)) [
            | inl here ↦ found_in here.0 here.1 (place_in (spelled (variables m (class_at m (get_or (processes m) here.0 [])))) name) refl
            | inr none_has ↦ stays (show word name) refused_show_line (replies.shows_none xs word name (none_named m word name none_has))
          ]

    pub some_reply : (c : Command) → HasReply setting line xs c
    some_reply menu = let m = some_moment known setting sound xs s x in some_menu m.0 m.1
    some_reply (pick k) = let m = some_moment known setting sound xs s x in some_pick k m.0 m.1
    some_reply pass = let m = some_moment known setting sound xs s x in some_pass m.0 m.1
    some_reply (run n) = some_run n
    some_reply (until message n) = some_until message n
    some_reply (back n) = some_back n (le_or_lt n (length xs))
    some_reply (show word name) = some_show word name
    some_reply unknown = stays unknown _ (replies.is_unknown xs)

  pub some_text : (line : ℕ) (cs : List Command) (xs : List Step) (s : Simulation) → StandsAfter setting xs s → HaveReplies setting line xs cs
  some_text line [] xs s x = record { text = []; steps = xs; replies = none line xs }
  some_text line (c ∷ cs) xs s x =
      let here = some_reply line xs s x c in
      let rest = some_text (suc line) cs here.steps here.to here.leads in
      record { text = here.text ++ rest.text; steps = rest.steps; replies = more line xs here.steps rest.steps c cs here.text rest.text here.replies rest.replies }

  pub some_session : (commands : List ℕ) → (text : List ℕ) × IsSessionText setting commands text
  some_session commands =
      let all = known.some_commands commands in
      let start = known.some_start setting sound in
      let y = some_text 1 all.0 [] (stands setting start.0 whole) (known.begins setting (stands setting start.0 whole) (simulations.starts start.0 start.1)) in
      (y.text, record { are = all.0; are_commands = all.1; steps = y.steps; replies = y.replies })

pub every_advance : Known → EveryAdvance
every_advance known setting wanted n xs s sound x = some_advance known setting sound wanted n xs s x

pub every_reply : Known → EveryReply
every_reply known setting line xs c s sound x = some_reply known setting sound line xs s x c

pub every_text : Known → EveryText
every_text known setting line xs cs s sound x = some_text known setting sound line cs xs s x

pub every_session : Known → EverySession
every_session known setting commands sound = some_session known setting sound commands
