-- A command has one reply.
use Rattle.std.proofs.Common.{◌≡◌, ◌≤◌, ◌<◌, ◌-◌, ◌⊎◌, inl, inr, refl, sym, ap, subst, ◌∙◌, ℕ, zero, suc, List, [], ◌∷◌, ◌++◌, length, take, Some, None, arith}
use Rattle.std.specs.Prelude.{slice_get}
use Rattle.pz_classes_code.specs.Places.{place_in}
use Rattle.pz_classes_code.specs.pz_syntax.Classes.{ModelTree}
use Rattle.pz_rules.specs.pz_classes_rules.Members.{variables, spelled}
use Rattle.pz_bind_levels.specs.Places.{Address}
use Rattle.pz_rules.specs.pz_bind_rules.Nest.{processes, class_at}
use Rattle.pz_rules.specs.pz_state.States.{variable}
use Rattle.pz_rules.specs.pz_copy.Parcels.{ParcelView}
use Rattle.pz_rules.specs.pz_copy.Packing.{IsParcelOf}
use Rattle.pz_rules.specs.declared.action.Action.{Action}
use Rattle.pz_rules.specs.declared.moment.Moment.{Moment}
use Rattle.pz_rules.specs.declared.moment.Moment.TheVariants.{Actions, Time}
use Rattle.pz_rules.specs.Settings.{Setting, Process}
use Rattle.pz_rules.specs.Configurations.{Config}
use Rattle.pz_rules.specs.Runs.{Standing}
use Rattle.pz_rules.specs.Laws.{OneListOfOffers}
use Rattle.pz_rules.specs.devices.Walks.{SendsHaveParcels}
use Rattle.pz_trace.specs.declared.ending.Ending.{Ending}
use Rattle.pz_trace.specs.Lines.{action_line, time_line, end_line}
use Rattle.pz_term_simulator.specs.Simulations as simulations
use Rattle.pz_term_simulator.specs.Simulations.{Simulation, stands, IsMomentOf, AreOffersOf, IsOffer, clock_in}
use Rattle.pz_term_simulator.specs.Shown.{HoldsValue}
use Rattle.pz_term_simulator.specs.Refusals.{NoTime}
use Rattle.pz_term_simulator.specs.Laws.{OneMomentOf, OneOfferOf, OffersAreThere, OffersAreCounted, OffersAreNumbered}
use Rattle.pz_debug_commands.specs.Commands.{Command}
use Rattle.pz_debug_session.specs.declared.step.Step.{Step}
use Rattle.pz_debug_session.specs.Steps.{StandsAfter}
use Rattle.pz_debug_session.specs.Laws.{OnePlace}
use Rattle.pz_debug_replies.specs.Lines.{menu_line, offers_text, waiting_line, refused_pick_line, refused_pass_line, back_line, show_line}
use Rattle.pz_debug_replies.specs.Shown.{IsVariable}
use Rattle.pz_debug_replies.specs.Replies.{offers_at, ending_at, Replies, offered, waiting, over, picks, no_offer, passes, no_passing, runs, runs_until, goes_back, too_far, shows, shows_none, is_unknown}
use Rattle.pz_debug_replies.specs.Sessions.{RepliesAll, none, more}
use Rattle.pz_debug_replies.proofs.Places.{le_or_lt}
use Rattle.pz_debug_replies.proofs.Parcels.{one_parcel}
use Rattle.pz_debug_replies.proofs.OneText.{time_is, count_is, never_both, one_advance}

some_is : {A : Type 0} {x y : A} → Some x ≡ Some y → x ≡ y
some_is e = cc

none_some : {A : Type 0} {x : A} → None ≡ Some x → ⊥
none_some e = cc

within : (xs : List Action) (k : ℕ) (a : Action) → slice_get xs k ≡ Some a → k < length xs
within [] k a e = absurd (none_some e)
within (x ∷ xs) zero a e = omega arith
within (x ∷ xs) (suc k) a e = let rest : k < length xs = within xs k a e in omega (arith, rest)

-- what is shown

config_is : {setting : Setting} {c d : Config} {x y : Standing} → stands setting c x ≡ stands setting d y → c ≡ d
config_is e = cc

module _ (m : ModelTree) (path name : List ℕ) (i j v w : ℕ) (is : IsVariable m path name i v) (are : IsVariable m path name j w) where
  -- a path is that of the first process that has it
  one_process : i ≡ j
  one_process = by (le_or_lt i j)
    where
      by : (i ≤ j) ⊎ (j < i) → i ≡ j
      by (inr below) = absurd (is.first j are.place below are.is_process are.is_path)
      by (inl up_to) = at (le_or_lt j i)
        where
          at : (j ≤ i) ⊎ (i < j) → i ≡ j
          at (inl also) = omega (arith, up_to, also)
          at (inr below) = absurd (are.first i is.place below is.is_process is.is_path)

  one_place_of : is.place ≡ are.place
  one_place_of = some_is (sym is.is_process ∙ ap (slice_get (processes m)) one_process ∙ are.is_process)

  one_variable : v ≡ w
  one_variable = some_is (sym is.is_variable ∙ ap (λ (p : Address). place_in (spelled (variables m (class_at m p))) name) one_place_of ∙ are.is_variable)

-- and its variable holds one value, which has one parcel
one_value : SendsHaveParcels → (m : ModelTree) (c : Config) (i v : ℕ) (p q : ParcelView) → HoldsValue c i v p → HoldsValue c i v q → p ≡ q
one_value packed m c i v p q holds has =
    let same : holds.process ≡ has.process = some_is (sym holds.stands ∙ has.stands) in
    one_parcel m has.process.state v packed p q (subst (λ (x : Process). IsParcelOf x.state (variable x.state v ∷ []) p) same holds.is_parcel) has.is_parcel

one_shown : SendsHaveParcels → (m : ModelTree) (path name : List ℕ) (c : Config) (i j v w : ℕ) (p q : ParcelView) → IsVariable m path name i v → IsVariable m path name j w → HoldsValue c i v p → HoldsValue c j w q → p ≡ q
one_shown packed m path name c i j v w p q is are holds has =
    one_value packed m c i v p q holds
    (subst (λ (n : ℕ). HoldsValue c i n q) (sym (one_variable m path name i j v w is are)) (subst (λ (n : ℕ). HoldsValue c n w q) (sym (one_process m path name i j v w is are)) has))

pub record Known : Type 0 where
  pub place : OnePlace
  pub moments : OneMomentOf
  pub offer : OneOfferOf
  pub there : OffersAreThere
  pub counted : OffersAreCounted
  pub numbered : OffersAreNumbered
  pub list : OneListOfOffers
  pub packed : SendsHaveParcels

one_list : OneListOfOffers → (s : Simulation) (n : ℕ) (xs ys : List Action) → IsMomentOf s (Actions n) → AreOffersOf s xs → AreOffersOf s ys → xs ≡ ys
one_list one _ n xs ys is (simulations.some setting c k _ at are) (simulations.some _ _ l _ also be) = one setting c xs ys are be
one_list one _ n xs _ is (simulations.some setting c k _ at are) (simulations.none _ absent) = absurd (absent n is)
one_list one _ n _ ys is (simulations.none _ absent) other = absurd (absent n is)

module _ (known : Known) (setting : Setting) where
  same : (xs : List Step) (s t : Simulation) → StandsAfter setting xs s → StandsAfter setting xs t → s ≡ t
  same xs s t at other = known.place setting xs s t at other

  clocks : (xs : List Step) (s t : Simulation) → StandsAfter setting xs s → StandsAfter setting xs t → clock_in s ≡ clock_in t
  clocks xs s t at other = ap clock_in (same xs s t at other)

  moment_is : (xs : List Step) (s t : Simulation) (m n : Moment) → StandsAfter setting xs s → StandsAfter setting xs t → IsMomentOf s m → IsMomentOf t n → m ≡ n
  moment_is xs s t m n at other is are = known.moments s m n is (subst (λ (u : Simulation). IsMomentOf u n) (sym (same xs s t at other)) are)

  no_end : (m : Moment) (e : Ending) → ending_at m ≡ Some e → {n : Moment} → ending_at n ≡ None → m ≡ n → ⊥
  no_end m e is open_end meets = none_some (sym open_end ∙ ap ending_at (sym meets) ∙ is)

  below : (s : Simulation) (n k : ℕ) (a : Action) → IsMomentOf s (Actions n) → IsOffer s k a → k < n
  below s n k a is offers =
      let all = known.there s n is in
      omega (arith, known.counted s n all.0 is all.1, within all.0 k a (known.numbered s n k all.0 a is all.1 offers))

  not_refused : (s : Simulation) (n k : ℕ) (a : Action) (m : Moment) → IsMomentOf s (Actions n) → IsOffer s k a → Actions n ≡ m → offers_at m ≤ k → ⊥
  not_refused s n k a m is offers meets few = let count : offers_at (Actions n) ≤ k = subst (λ (o : Moment). offers_at o ≤ k) (sym meets) few in omega (arith, count, below s n k a is offers)

  pub one_reply : (line : ℕ) (c : Command) (xs ys zs : List Step) (text other : List ℕ) → Replies setting line xs c text ys → Replies setting line xs c other zs → (text ≡ other) × (ys ≡ zs)
  one_reply line _ _ _ _ _ _ (offered xs s n actions at is are) (offered _ t k others also be them) =
      let counts : n ≡ k = count_is (moment_is xs s t (Actions n) (Actions k) at also is be) in
      let lists : actions ≡ others = one_list known.list s n actions others is are (subst (λ (u : Simulation). AreOffersOf u others) (sym (same xs s t at also)) them) in (
        ap (λ (x : ℕ). menu_line x n ++ offers_text setting.model 0 actions) (clocks xs s t at also)
            ∙ ap (λ (x : ℕ). menu_line (clock_in t) x ++ offers_text setting.model 0 actions) counts
            ∙ ap (λ (l : List Action). menu_line (clock_in t) k ++ offers_text setting.model 0 l) lists,
        refl,
      )
  one_reply line _ _ _ _ _ _ (offered xs s n actions at is are) (waiting _ t d also be) = absurd (never_both (moment_is xs s t (Actions n) (Time d) at also is be))
  one_reply line _ _ _ _ _ _ (offered xs s n actions at is are) (over _ t m e also be ends) = absurd (no_end m e ends {n = Actions n} refl (moment_is xs t s m (Actions n) also at be is))
  one_reply line _ _ _ _ _ _ (waiting xs s d at is) (offered _ t k others also be them) = absurd (never_both (moment_is xs t s (Actions k) (Time d) also at be is))
  one_reply line _ _ _ _ _ _ (waiting xs s d at is) (waiting _ t e also be) =
      (ap (λ (x : ℕ). waiting_line x d) (clocks xs s t at also) ∙ ap (λ (x : ℕ). waiting_line (clock_in t) x) (time_is (moment_is xs s t (Time d) (Time e) at also is be)), refl)
  one_reply line _ _ _ _ _ _ (waiting xs s d at is) (over _ t m e also be ends) = absurd (no_end m e ends {n = Time d} refl (moment_is xs t s m (Time d) also at be is))
  one_reply line _ _ _ _ _ _ (over xs s m e at is ends) (offered _ t k others also be them) = absurd (no_end m e ends {n = Actions k} refl (moment_is xs s t m (Actions k) at also is be))
  one_reply line _ _ _ _ _ _ (over xs s m e at is ends) (waiting _ t d also be) = absurd (no_end m e ends {n = Time d} refl (moment_is xs s t m (Time d) at also is be))
  one_reply line _ _ _ _ _ _ (over xs s m e at is ends) (over _ t n f also be so) =
      let alike : e ≡ f = some_is (sym ends ∙ ap ending_at (moment_is xs s t m n at also is be) ∙ so) in
      (ap (λ (x : ℕ). end_line setting.model x e) (clocks xs s t at also) ∙ ap (λ (x : Ending). end_line setting.model (clock_in t) x) alike, refl)
  one_reply line _ _ _ _ _ _ (picks xs s n k a at is offers) (picks _ t l _ b also be offers') =
      let counts : n ≡ l = count_is (moment_is xs s t (Actions n) (Actions l) at also is be) in
      let actions : a ≡ b = known.offer s k a b offers (subst (λ (u : Simulation). IsOffer u k b) (sym (same xs s t at also)) offers') in (
        ap (λ (x : ℕ). action_line setting.model x n k a) (clocks xs s t at also) ∙ ap (λ (x : ℕ). action_line setting.model (clock_in t) x k a) counts
            ∙ ap (λ (x : Action). action_line setting.model (clock_in t) l k x) actions,
        refl,
      )
  one_reply line _ _ _ _ _ _ (picks xs s n k a at is offers) (no_offer _ t _ m also be few) = absurd (not_refused s n k a m is offers (moment_is xs s t (Actions n) m at also is be) few)
  one_reply line _ _ _ _ _ _ (no_offer xs s k m at is few) (picks _ t n _ a also be offers) = absurd (not_refused t n k a m be offers (moment_is xs t s (Actions n) m also at be is) few)
  one_reply line _ _ _ _ _ _ (no_offer xs s k m at is few) (no_offer _ t _ n also be less) = (
    ap (λ (x : ℕ). refused_pick_line x k (offers_at m)) (clocks xs s t at also)
        ∙ ap (λ (x : Moment). refused_pick_line (clock_in t) k (offers_at x)) (moment_is xs s t m n at also is be),
    refl,
  )
  one_reply line _ _ _ _ _ _ (passes xs s d at is) (passes _ t e also be) =
      (ap (λ (x : ℕ). time_line x d) (clocks xs s t at also) ∙ ap (λ (x : ℕ). time_line (clock_in t) x) (time_is (moment_is xs s t (Time d) (Time e) at also is be)), refl)
  one_reply line _ _ _ _ _ _ (passes xs s d at is) (no_passing _ t m also be other_moment) = absurd (subst NoTime (moment_is xs t s m (Time d) also at be is) other_moment)
  one_reply line _ _ _ _ _ _ (no_passing xs s m at is other_moment) (passes _ t d also be) = absurd (subst NoTime (moment_is xs s t m (Time d) at also is be) other_moment)
  one_reply line _ _ _ _ _ _ (no_passing xs s m at is other_moment) (no_passing _ t n also be another) = (ap refused_pass_line (clocks xs s t at also), refl)
  one_reply line _ _ _ _ _ _ (runs n xs ys text goes) (runs _ _ zs other also) = one_advance known.place known.moments known.offer setting None n xs ys zs text other goes also
  one_reply line _ _ _ _ _ _ (runs_until message n xs ys text goes) (runs_until _ _ _ zs other also) =
      one_advance known.place known.moments known.offer setting (Some message) n xs ys zs text other goes also
  one_reply line _ _ _ _ _ _ (goes_back n xs s few at) (goes_back _ _ t _ also) =
      (ap (λ (x : ℕ). back_line (length xs - n) x) (clocks (take (length xs - n) xs) s t at also), refl)
  one_reply line _ _ _ _ _ _ (goes_back n xs s few at) (too_far _ _ past) = absurd (omega (arith, few, past))
  one_reply line _ _ _ _ _ _ (too_far n xs past) (goes_back _ _ t few also) = absurd (omega (arith, few, past))
  one_reply line _ _ _ _ _ _ (too_far n xs past) (too_far _ _ also) = (refl, refl)
  one_reply line _ _ _ _ _ _ (shows xs c standing path name i v parcel at is holds) (shows _ d other_standing _ _ j w other_parcel also are has) =
      let one : c ≡ d = config_is (same xs (stands setting c standing) (stands setting d other_standing) at also) in (
        ap (show_line setting.model path name) (one_shown known.packed setting.model path name c i j v w parcel other_parcel is are holds (subst (λ (x : Config). HoldsValue x j w other_parcel) (sym one) has)),
        refl,
      )
  one_reply line _ _ _ _ _ _ (shows xs c standing path name i v parcel at is holds) (shows_none _ _ _ absent) = absurd (absent i v is)
  one_reply line _ _ _ _ _ _ (shows_none xs path name absent) (shows _ d other_standing _ _ j w parcel also are has) = absurd (absent j w are)
  one_reply line _ _ _ _ _ _ (shows_none xs path name absent) (shows_none _ _ _ _) = (refl, refl)
  one_reply line _ _ _ _ _ _ (is_unknown xs) (is_unknown _) = (refl, refl)

  pub one_text : (line : ℕ) (cs : List Command) (xs ys zs : List Step) (text other : List ℕ) → RepliesAll setting line xs cs text ys → RepliesAll setting line xs cs other zs → (text ≡ other) × (ys ≡ zs)
  one_text _ _ _ _ _ _ _ (none line xs) (none _ _) = (refl, refl)
  one_text _ _ _ _ _ _ _ (more line xs ys zs c cs text rest reply goes) (more _ _ us vs _ _ other left also on) =
      let here = one_reply line c xs ys us text other reply also in
      let there = one_text (suc line) cs ys zs vs rest left goes (subst (λ (l : List Step). RepliesAll setting (suc line) l cs left vs) (sym here.1) on) in
      (ap (λ (l : List ℕ). l ++ rest) here.0 ∙ ap (λ (l : List ℕ). other ++ l) there.0, there.1)
