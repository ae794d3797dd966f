-- Every configuration has a list of offers and a moment, and time passes only where nothing else can
-- happen.
use Rattle.std.proofs.Common.{◌≡◌, ◌≤◌, ◌<◌, ◌⊎◌, inl, inr, ℕ, zero, suc, List, [], ◌∷◌, length, Ok, refl, sym, subst, ap, ◌∙◌, arith}
use Rattle.std.specs.List.{All}
use Rattle.std.proofs.lemmas.List.Elements.{All-nil, All-cons}
use Rattle.pz_bind_rules.specs.pz_syntax.declared.tokens.Pos.{Pos}
use Rattle.pz_offer.specs.pz_copy.Parcels.{ParcelView}
use Rattle.pz_offer.specs.declared.end.End.{End}
use Rattle.pz_offer.specs.PlaceOrder.{EndBefore}
use Rattle.pz_offer.specs.declared.trouble.Trouble.{Trouble}
use Rattle.pz_rules.specs.declared.action.Kind.{Kind}
use Rattle.pz_rules.specs.declared.action.Kind.TheVariants.{Expire}
use Rattle.pz_rules.specs.declared.action.Action.{Action}
use Rattle.pz_rules.specs.declared.action.Action.TheVariants.{Internal, Comm}
use Rattle.pz_rules.specs.declared.moment.Moment.{Moment}
use Rattle.pz_rules.specs.declared.moment.Moment.TheVariants.{Actions, Time, Finished, Deadlock, Faulty, Stopped}
use Rattle.pz_rules.specs.Terms.{Term, done, leaf, wait, sequence, parallel, select, guarded, frame, abort, idle, handling}
use Rattle.pz_rules.specs.Settings.{Setting, Process, Context}
use Rattle.pz_rules.specs.Evaluations.{Lasts}
use Rattle.pz_rules.specs.InternalActions as actions
use Rattle.pz_rules.specs.InternalActions.{Can}
use Rattle.pz_rules.specs.Delays as delays
use Rattle.pz_rules.specs.Delays.{Delays}
use Rattle.pz_rules.specs.Ports.{HasWires}
use Rattle.pz_rules.specs.Configurations.{Config}
use Rattle.pz_rules.specs.Heights.{IsLow}
use Rattle.pz_rules.specs.Offers.{PartAt, IsPair, Before, IsOffers, Offers, internal, communication}
use Rattle.pz_rules.specs.Moments.{Source, SourceBefore, Troubles, IsLeastTrouble, IsLeft, IsLeast, IsFirstHigh, AllDone, Candidate, high, faulty, acting, passing, finished, deadlock, rank, IsMoment}
use Rattle.pz_rules.specs.devices.Walk.{Doing, does}
use Rattle.pz_rules.proofs.Locals.{some_is, does_complete}
use Rattle.pz_rules.proofs.Orders.{Either, end_order, ThreeBefore, three_order, transitive, number_transitive, number_order, source_order, source_transitive, source_irreflexive, one_list}
use Rattle.pz_rules.proofs.TooHigh.{NoneHigh, low_none, high_or_none}
use Rattle.pz_rules.proofs.OneMoment.{part_at_once, computed_once, pair_once, trouble_once}
use Rattle.pz_rules.proofs.Finite.{Known, sorted, Least, least}
use Rattle.pz_rules.proofs.Derived.{Blame, IsBlame, offers, troubles, lefts}

module _ (setting : Setting) (c : Config) where
  -- The offers

  at_one_end : (e e' : End) (a a' : Context) (f f' : ℕ) (p p' : Term) (k k' : Kind) (o o' : Pos) → PartAt setting c e a f p → Can a f p k o → PartAt setting c e' a' f' p' → Can a' f' p' k' o' → e ≡ e' → Internal e k o ≡ Internal e' k' o'
  at_one_end e e' a a' f f' p p' k k' o o' at can at' can' same =
      let here : PartAt setting c e' a f p = subst (λ (x : End). PartAt setting c x a f p) same at in
      let one : (let d : Doing = record { kind = k; pos = o } in d) ≡ record { kind = k'; pos = o' } =
      some_is (sym (does_complete a f p k o can) ∙ computed_once setting c does (part_at_once setting c e' a a' f f' p p' here at') ∙ does_complete a' f' p' k' o' can') in
      ap (λ (x : End). Internal x k o) same ∙ ap (λ (d : Doing). Internal e' d.kind d.pos) one

  one_comm : (w w' : ℕ) (s s' r r' : End) (m m' : List ℕ) (p p' : ParcelView) → IsPair setting c w s r m p → IsPair setting c w' s' r' m' p' → (let x : ℕ × (End × End) = (w, (s, r)) in x) ≡ (w', (s', r')) → Comm w s r m p ≡ Comm w' s' r' m' p'
  one_comm w w' s s' r r' m m' p p' one other same =
      let number : w ≡ w' = ap (λ (x : ℕ × (End × End)). x.0) same in
      let sender : s ≡ s' = ap (λ (x : ℕ × (End × End)). x.1.0) same in
      let receiver : r ≡ r' = ap (λ (x : ℕ × (End × End)). x.1.1) same in
      let sends = pair_once setting c w w' s' r r' m m' p p' (subst (λ (x : End). IsPair setting c w x r m p) sender one) other in
      ap (λ (x : ℕ). Comm x s r m p) number ∙ ap (λ (x : End). Comm w' x r m p) sender ∙ ap (λ (x : End). Comm w' s' x m p) receiver
      ∙ ap (λ (x : List ℕ). Comm w' s' r' x p) sends.message ∙ ap (λ (x : ParcelView). Comm w' s' r' m' x) sends.parcel

  offers_order : (a b : Action) → Offers setting c a → Offers setting c b → Either Before a b
  offers_order _ _ (internal e a f p k o at can) (internal e' a' f' p' k' o' at' can') = by (end_order e e')
    where
      by : Either EndBefore e e' → Either Before (Internal e k o) (Internal e' k' o')
      by (inl h) = inl h
      by (inr (inl same)) = inr (inl (at_one_end e e' a a' f f' p p' k k' o o' at can at' can' same))
      by (inr (inr h)) = inr (inr h)
  offers_order _ _ (internal e a f p k o at can) (communication w' s' r' m' p' one' judged') = inl tt
  offers_order _ _ (communication w s r m p one judged) (internal e' a' f' p' k' o' at' can') = inr (inr tt)
  offers_order _ _ (communication w s r m p one judged) (communication w' s' r' m' p' one' judged') = by (three_order w s r w' s' r')
    where
      by : Either ThreeBefore (w, (s, r)) (w', (s', r')) → Either Before (Comm w s r m p) (Comm w' s' r' m' p')
      by (inl h) = inl h
      by (inr (inl same)) = inr (inl (one_comm w w' s s' r r' m m' p p' one one' same))
      by (inr (inr h)) = inr (inr h)

  pub record SomeOffers : Type 0 where
    pub list : List Action
    pub is : IsOffers setting c list

  pub offers_some : HasWires setting.model → SomeOffers
  offers_some wires =
      let r = sorted Before (Offers setting c) transitive offers_order (offers setting c wires) in
      record { list = r.list; is = record { ordered = r.ordered; derivable = r.sound; every = r.every } }

  -- The least trouble

  abbrev BlameBefore : Blame → Blame → Type 0
  BlameBefore x y = SourceBefore x.source y.source

  blames_order : (x y : Blame) → IsBlame setting c x → IsBlame setting c y → Either BlameBefore x y
  blames_order x y h k = by (source_order x.source y.source)
    where
      by : Either SourceBefore x.source y.source → Either BlameBefore x y
      by (inl before) = inl before
      by (inr (inl same)) =
          let trouble : x.trouble ≡ y.trouble = trouble_once setting c y.source x.trouble y.trouble (subst (λ (s : Source). Troubles setting c s x.trouble) same h) k in
          inr (inl (ap (λ (s : Source). let b : Blame = record { source = s; trouble = x.trouble } in b) same ∙ ap (λ (t : Trouble). let b : Blame = record { source = y.source; trouble = t } in b) trouble))
      by (inr (inr after)) = inr (inr after)

  abbrev pub NoTrouble : Type 0
  NoTrouble = (source : Source) (t : Trouble) → Troubles setting c source t → ⊥

  not_before : (x y : Blame) → (x ≡ y) ⊎ BlameBefore y x → BlameBefore x y → ⊥
  not_before x y (inl same) before = source_irreflexive y.source (subst (λ (b : Blame). BlameBefore b y) same before)
  not_before x y (inr after) before = source_irreflexive x.source (source_transitive x.source y.source x.source before after)

  abbrev SomeTrouble : Type 0
  SomeTrouble = (t : Trouble) × IsLeastTrouble setting c t

  trouble_or_none : HasWires setting.model → SomeTrouble ⊎ NoTrouble
  trouble_or_none wires = by (least BlameBefore (IsBlame setting c) (λ x y z h k. source_transitive x.source y.source z.source h k) blames_order (troubles setting c wires))
    where
      by : Least BlameBefore (IsBlame setting c) ⊎ ((x : Blame) → IsBlame setting c x → ⊥) → SomeTrouble ⊎ NoTrouble
      by (inl l) = inl (l.one.trouble, record { source = l.one.source; occurs = l.is_one; least = λ other t h before. not_before (record { source = other; trouble = t }) l.one (l.first (record { source = other; trouble = t }) h) before })
      by (inr none) = inr (λ source t h. none (record { source = source; trouble = t }) h)

  -- The least delay

  abbrev SomeDelay : Type 0
  SomeDelay = (d : ℕ) × IsLeast setting c d

  abbrev pub NoDelay : Type 0
  NoDelay = (d : ℕ) → IsLeft setting c d → ⊥

  at_least : (d left : ℕ) → (left ≡ d) ⊎ (d < left) → d ≤ left
  at_least d left (inl same) = omega (arith, same)
  at_least d left (inr less) = omega (arith, less)

  delay_or_none : SomeDelay ⊎ NoDelay
  delay_or_none = by (least (λ (x y : ℕ). x < y) (IsLeft setting c) number_transitive (λ x y h k. number_order x y) (lefts setting c))
    where
      by : Least (λ (x y : ℕ). x < y) (IsLeft setting c) ⊎ ((d : ℕ) → IsLeft setting c d → ⊥) → SomeDelay ⊎ NoDelay
      by (inl l) = inl (l.one, record { is_left = l.is_one; least = λ left h. at_least l.one left (l.first left h) })
      by (inr none) = inr none

  -- Whether all is done

  done_known : (t : Term) → Known (t ≡ done)
  done_known done = inl refl
  done_known (leaf s) = inr (λ e. cc)
  done_known (wait left at) = inr (λ e. cc)
  done_known (sequence t rest) = inr (λ e. cc)
  done_known (parallel ts) = inr (λ e. cc)
  done_known (select ts) = inr (λ e. cc)
  done_known (guarded test at t) = inr (λ e. cc)
  done_known (frame number inputs results t) = inr (λ e. cc)
  done_known (abort t u) = inr (λ e. cc)
  done_known (idle t u again) = inr (λ e. cc)
  done_known (handling t u again) = inr (λ e. cc)

  abbrev IsDone : Process → Type 0
  IsDone p = p.term ≡ done

  all_known : (ps : List Process) → Known (All IsDone ps)
  all_known [] = inl (All-nil IsDone)
  all_known (p ∷ ps) = by (done_known p.term) (all_known ps)
    where
      by : Known (p.term ≡ done) → Known (All IsDone ps) → Known (All IsDone (p ∷ ps))
      by (inl first) (inl rest) = inl (All-cons IsDone p ps first rest)
      by (inl first) (inr other) = inr (λ all. other (λ k d within. all (suc k) d (omega (arith, within))))
      by (inr other) rest = inr (λ all. other (all 0 p (omega arith)))

  -- What may be said, once earlier moments are excluded

  rank_one : NoneHigh setting c → (n : Moment) → Candidate setting c n → 1 ≤ rank n
  rank_one low _ (high t x) = absurd (low t x)
  rank_one low _ (faulty t x) = omega arith
  rank_one low _ (acting xs x some) = omega arith
  rank_one low _ (passing d x) = omega arith
  rank_one low _ (finished x) = omega arith
  rank_one low _ deadlock = omega arith

  pub rank_two : NoneHigh setting c → NoTrouble → (n : Moment) → Candidate setting c n → 2 ≤ rank n
  rank_two low calm _ (high t x) = absurd (low t x)
  rank_two low calm _ (faulty t x) = absurd (calm x.source t x.occurs)
  rank_two low calm _ (acting xs x some) = omega arith
  rank_two low calm _ (passing d x) = omega arith
  rank_two low calm _ (finished x) = omega arith
  rank_two low calm _ deadlock = omega arith

  no_offers : (xs : List Action) → IsOffers setting c [] → IsOffers setting c xs → 1 ≤ length xs → ⊥
  no_offers xs none is some = omega (arith, some, ap length (one_list setting c xs [] is none))

  pub rank_three : NoneHigh setting c → NoTrouble → IsOffers setting c [] → (n : Moment) → Candidate setting c n → 3 ≤ rank n
  rank_three low calm none _ (high t x) = absurd (low t x)
  rank_three low calm none _ (faulty t x) = absurd (calm x.source t x.occurs)
  rank_three low calm none _ (acting xs x some) = absurd (no_offers xs none x some)
  rank_three low calm none _ (passing d x) = omega arith
  rank_three low calm none _ (finished x) = omega arith
  rank_three low calm none _ deadlock = omega arith

  pub rank_four : NoneHigh setting c → NoTrouble → IsOffers setting c [] → NoDelay → (n : Moment) → Candidate setting c n → 4 ≤ rank n
  rank_four low calm none still _ (high t x) = absurd (low t x)
  rank_four low calm none still _ (faulty t x) = absurd (calm x.source t x.occurs)
  rank_four low calm none still _ (acting xs x some) = absurd (no_offers xs none x some)
  rank_four low calm none still _ (passing d x) = absurd (still d x.is_left)
  rank_four low calm none still _ (finished x) = omega arith
  rank_four low calm none still _ deadlock = omega arith

  pub rank_five : NoneHigh setting c → NoTrouble → IsOffers setting c [] → NoDelay → (AllDone c → ⊥) → (n : Moment) → Candidate setting c n → 5 ≤ rank n
  rank_five low calm none still more _ (high t x) = absurd (low t x)
  rank_five low calm none still more _ (faulty t x) = absurd (calm x.source t x.occurs)
  rank_five low calm none still more _ (acting xs x some) = absurd (no_offers xs none x some)
  rank_five low calm none still more _ (passing d x) = absurd (still d x.is_left)
  rank_five low calm none still more _ (finished x) = absurd (more x)
  rank_five low calm none still more _ deadlock = omega arith

  pub record SomeMoment : Type 0 where
    pub moment : Moment
    pub is : IsMoment setting c moment

  by_done : NoneHigh setting c → NoTrouble → IsOffers setting c [] → NoDelay → Known (AllDone c) → SomeMoment
  by_done low calm none still (inl all) = record { moment = Finished; is = record { applies = finished all; first = rank_four low calm none still } }
  by_done low calm none still (inr more) = record { moment = Deadlock; is = record { applies = deadlock; first = rank_five low calm none still more } }

  by_delay : NoneHigh setting c → NoTrouble → IsOffers setting c [] → SomeDelay ⊎ NoDelay → SomeMoment
  by_delay low calm none (inl d) = record { moment = Time d.0; is = record { applies = passing d.0 d.1; first = rank_three low calm none } }
  by_delay low calm none (inr still) = by_done low calm none still (all_known c.processes)

  by_offers : NoneHigh setting c → NoTrouble → (xs : List Action) → IsOffers setting c xs → SomeMoment
  by_offers low calm [] is = by_delay low calm is delay_or_none
  by_offers low calm (x ∷ xs) is = record { moment = Actions (length (x ∷ xs)); is = record { applies = acting (x ∷ xs) is (omega arith); first = rank_two low calm } }

  by_trouble : HasWires setting.model → NoneHigh setting c → SomeTrouble ⊎ NoTrouble → SomeMoment
  by_trouble wires low (inl t) = record { moment = Faulty t.0; is = record { applies = faulty t.0 t.1; first = rank_one low } }
  by_trouble wires low (inr calm) = let os = offers_some wires in by_offers low calm os.list os.is

  pub moment_some : HasWires setting.model → SomeMoment
  moment_some wires = by (high_or_none setting c)
    where
      by : ((t : Trouble) × IsFirstHigh setting c t) ⊎ NoneHigh setting c → SomeMoment
      by (inl t) = record { moment = Stopped t.0; is = record { applies = high t.0 t.1; first = λ n x. omega arith } }
      by (inr low) = by_trouble wires low (trouble_or_none wires)

  -- Where no term is too high

  low_moment : NoneHigh setting c → (m : Moment) (t : Trouble) → m ≡ Stopped t → Candidate setting c m → ⊥
  low_moment low _ t e (high u x) = low u x
  low_moment low _ t e (faulty u x) = omega (arith, ap rank e)
  low_moment low _ t e (acting xs x some) = omega (arith, ap rank e)
  low_moment low _ t e (passing d x) = omega (arith, ap rank e)
  low_moment low _ t e (finished x) = omega (arith, ap rank e)
  low_moment low _ t e deadlock = omega (arith, ap rank e)

  pub low_is_not_stopped : (t : Trouble) → IsLow setting c → IsMoment setting c (Stopped t) → ⊥
  low_is_not_stopped t low is = low_moment (low_none setting c low) (Stopped t) t refl is.applies

  -- Time waits

  pub time_waits : HasWires setting.model → (d : ℕ) (a : Action) → IsMoment setting c (Time d) → Offers setting c a → ⊥
  time_waits wires d a is offer =
      let os = offers_some wires in
      let some : 1 ≤ length os.list = omega (arith, (os.is.every a offer).1) in
      omega (arith, is.first (Actions (length os.list)) (acting os.list os.is some))

  pub no_trouble : HasWires setting.model → (d : ℕ) → IsMoment setting c (Time d) → NoTrouble
  no_trouble wires d is = by (trouble_or_none wires)
    where
      by : SomeTrouble ⊎ NoTrouble → NoTrouble
      by (inl t) = λ source u h. omega (arith, is.first (Faulty t.0) (faulty t.0 t.1))
      by (inr calm) = calm

  time_is : {d e : ℕ} → Time d ≡ Time e → d ≡ e
  time_is e = cc

  least_of : (m : Moment) (d : ℕ) → m ≡ Time d → Candidate setting c m → IsLeast setting c d
  least_of _ d e (passing n x) = subst (λ (k : ℕ). IsLeast setting c k) (time_is e) x
  least_of _ d e (high t x) = absurd (omega (arith, ap rank e))
  least_of _ d e (faulty t x) = absurd (omega (arith, ap rank e))
  least_of _ d e (acting xs x some) = absurd (omega (arith, ap rank e))
  least_of _ d e (finished x) = absurd (omega (arith, ap rank e))
  least_of _ d e deadlock = absurd (omega (arith, ap rank e))

  pub least_passes : (d : ℕ) → IsMoment setting c (Time d) → IsLeast setting c d
  least_passes d is = least_of (Time d) d refl is.applies

  -- what has nothing left can act
  expires : (a : Context) (f : ℕ) (t : Term) (left : ℕ) → left ≡ 0 → Delays a f t left → (pos : Pos) × Can a f t Expire pos
  expires a f _ _ e (delays.not_begun at code left lasts) = (at, actions.elapses at code (subst (λ (n : ℕ). Lasts a f at code (Ok n)) e lasts))
  expires a f _ _ e (delays.begun left at) = (at, subst (λ (n : ℕ). Can a f (wait n at) Expire at) (sym e) (actions.expires at))

  positive : (d : ℕ) → (d ≡ 0 → ⊥) → 1 ≤ d
  positive zero other = absurd (other refl)
  positive (suc d) other = omega arith

  pub time_positive : HasWires setting.model → (d : ℕ) → IsMoment setting c (Time d) → 1 ≤ d
  time_positive wires d is =
      let h = (least_passes d is).is_left in
      positive d (λ e. let x = expires h.seen h.frame h.part d e h.delays in time_waits wires d (Internal h.at Expire x.0) is (internal h.at h.seen h.frame h.part Expire x.0 h.active x.1))

  -- How many offers there are

  counted : (n : ℕ) (m : Moment) → m ≡ Actions n → Candidate setting c m → (xs : List Action) → IsOffers setting c xs → n ≡ length xs
  counted n _ e (acting ys is some) xs h = sym (count_is e) ∙ ap length (one_list setting c ys xs is h)
    where
      count_is : {k l : ℕ} → Actions k ≡ Actions l → k ≡ l
      count_is d = cc
  counted n _ e (high t x) xs h = absurd (omega (arith, ap rank e))
  counted n _ e (faulty t x) xs h = absurd (omega (arith, ap rank e))
  counted n _ e (passing d x) xs h = absurd (omega (arith, ap rank e))
  counted n _ e (finished x) xs h = absurd (omega (arith, ap rank e))
  counted n _ e deadlock xs h = absurd (omega (arith, ap rank e))

  pub action_count : (n : ℕ) → IsMoment setting c (Actions n) → (xs : List Action) → IsOffers setting c xs → n ≡ length xs
  action_count n is xs h = counted n (Actions n) refl is.applies xs h
