-- The moment of both is the same.
use Rattle.std.proofs.Common.{◌≡◌, ◌<◌, ◌≤◌, ◌⊎◌, inl, inr, ℕ, [], ◌∷◌, length, Err, refl, sym, ap, subst, arith}
use Rattle.std.proofs.lemmas.List.Elements.{length_all_zip}
use Rattle.pz_env_tree.specs.pz_syntax.Classes.{ModelTree}
use Rattle.pz_env_tree.specs.pz_offer.declared.end.End.{End}
use Rattle.pz_env_tree.specs.pz_offer.PlaceOrder.{Place}
use Rattle.pz_env_tree.specs.pz_offer.declared.trouble.Trouble.{Trouble}
use Rattle.pz_env_tree.specs.pz_offer.declared.trouble.Trouble.TheVariants.{Spent}
use Rattle.pz_env_tree.specs.pz_rules.declared.moment.Moment.{Moment}
use Rattle.pz_env_tree.specs.pz_rules.declared.moment.Moment.TheVariants.{Actions as ActionsMoment}
use Rattle.pz_env_tree.specs.pz_rules.Terms.{Term, done, height, leaf}
use Rattle.pz_env_tree.specs.pz_rules.Settings.{Process, Context}
use Rattle.pz_env_tree.specs.pz_rules.Asking.{Asks}
use Rattle.pz_env_tree.specs.pz_rules.Delays.{Delays}
use Rattle.pz_env_tree.specs.pz_rules.Configurations.{Config}
use Rattle.pz_env_tree.specs.pz_rules.Offers.{PartAt}
use Rattle.pz_env_tree.specs.pz_rules.Moments as system
use Rattle.pz_env_tree.specs.pz_rules.Moments.{IsFirstHigh, Source, part, pair, Troubles, IsLeastTrouble, IsLeft, IsLeast, AllDone, Candidate, rank, IsMoment}
use Rattle.pz_env_tree.specs.pz_env_rules.Environment.{Line, at_line, Doing, over}
use Rattle.pz_env_tree.specs.pz_env_rules.Joining.{Driving}
use Rattle.pz_env_tree.specs.pz_env_rules.Driven.{Driven, environment_end}
use Rattle.pz_env_tree.specs.pz_env_rules.Moments as driven
use Rattle.pz_env_tree.specs.pz_env_rules.Moments.{DrivenTroubles, spent, IsLeastDrivenTrouble, IsDrivenLeft, IsLeastDriven, AllOver, DrivenCandidate, IsDrivenMoment}
use Rattle.pz_env_mimics.specs.Environments.{exchange, IsPlain}
use Rattle.pz_env_mimics.specs.Closing.{Closes, closed}
use Rattle.pz_env_mimics.proofs.Known.{Known}
use Rattle.pz_env_mimics.proofs.Environment.{IsWaiting, not_begun, begun, IsDoing, finished, waiting_for, offering_it}
use Rattle.pz_env_mimics.proofs.Doing.{asks_only, delays_only, delays_there, asks_there}
use Rattle.pz_env_mimics.proofs.Mimics as mimics
use Rattle.pz_env_mimics.proofs.Mimics.{Mimics, Fit, fit_plain}
use Rattle.pz_env_mimics.proofs.Matching as matching
use Rattle.pz_env_mimics.proofs.Matching.{of_system, of_env, SameActions, SameSources, parts, pairs}
use Rattle.pz_env_mimics.proofs.Parts as parts
use Rattle.pz_env_mimics.proofs.Pairs as paired
use Rattle.pz_env_mimics.proofs.Offers as both

-- The height of the environment

waiting_low : (x : Line) (left : ℕ) (t : Term) → IsWaiting x left t → height t ≤ 1
waiting_low x _ _ not_begun = omega arith
waiting_low x _ _ (begun left) = omega arith

pub doing_low : (port : Line → ℕ) (Fit : Line → Type 0) (doing : Doing) (t : Term) → IsDoing port Fit doing t → height t ≤ 3
doing_low port Fit _ _ finished = omega arith
doing_low port Fit _ _ (waiting_for left x rest t fit fits is) =
    let low : height t ≤ 1 = waiting_low x left t is in
    omega (arith, low)
doing_low port Fit _ _ (offering_it x [] fit fits) = omega arith
doing_low port Fit _ _ (offering_it x (y ∷ ys) fit fits) = omega arith

-- It is done where it is over.

done_over : (port : Line → ℕ) (Fit : Line → Type 0) (doing : Doing) (t : Term) → IsDoing port Fit doing t → t ≡ done → doing ≡ over
done_over port Fit _ _ finished e = refl
done_over port Fit _ _ (waiting_for left x rest t fit fits is) e = cc
done_over port Fit _ _ (offering_it x rest fit fits) e = cc

over_done : (port : Line → ℕ) (Fit : Line → Type 0) (doing : Doing) (t : Term) → IsDoing port Fit doing t → doing ≡ over → t ≡ done
over_done port Fit _ _ finished e = refl
over_done port Fit _ _ (waiting_for left x rest t fit fits is) e = cc
over_done port Fit _ _ (offering_it x rest fit fits) e = cc

module _ (known : Known) (g : Driving) (n : ModelTree) (closes : Closes g n) (d : Driven) (c : Config) (m : Mimics known g n closes d c) where
  abbrev env : ℕ
  env = mimics.env known g n closes

  abbrev port : Line → ℕ
  port = mimics.port known g n closes

  abbrev Fits : Line → Type 0
  Fits = Fit known g n closes

  abbrev seen : Context
  seen = mimics.seen known g n closes d c m

  abbrev here : Place
  here = parts.here known g n closes d c m

  abbrev env_there : End
  env_there = record { process = env; place = here }

  abbrev SameOrigin : Source → Source → Type 0
  SameOrigin = SameSources env [] here

  plain_lines : (x : Line) → Fits x → IsPlain x
  plain_lines = fit_plain known g n closes

  -- Troubles

  pub trouble_on : (source : Source) (t : Trouble) → DrivenTroubles g d source t → (other : Source) × SameOrigin source other × Troubles (closed g n) c other t
  trouble_on _ _ (driven.asked at t is) = (part at, parts at at (of_system at (low is)), (known.part_troubles n g.setting d.system c m.more closes.rules m.both at t (low is)).0 is)
    where
      low : Troubles g.setting d.system (part at) t → at.process < env
      low (system.asked _ a f k _ there asks) = known.parts_of g.setting d.system at a f k there
  trouble_on _ _ (driven.judged w s r message parcel t is says) =
      let p = paired.pair_on known g n closes d c m w s r message parcel is in (
        pair w p.sender p.receiver,
        pairs w s p.sender r p.receiver p.same_sender p.same_receiver,
        system.judged w p.sender p.receiver message parcel t p.is (both.judged_on known g n closes d c m w s r p.receiver message parcel (Err t) is p.same_receiver says),
      )
  trouble_on _ _ (spent x rest values is sends more) =
      let at = parts.offered known g n closes d c m x rest is in (
        part env_there,
        parts (environment_end g) env_there of_env,
        system.asked env_there seen 1 (leaf (exchange (port x) x x.entry.transfer)) (Spent env (at_line x)) at.part (asks_there seen closes.limits port Fits plain_lines x values at.fit sends more),
      )

  part_trouble_back : (at : End) (a : Context) (f : ℕ) (k : Term) (t : Trouble) → PartAt (closed g n) c at a f k → Asks a f k t
      → (at.process < env) ⊎ (at.process ≡ env)
      → (other : Source) × SameSources env here [] (part at) other × DrivenTroubles g d other t
  part_trouble_back at a f k t there asks (inl low) = (
    part at,
    parts at at (of_system at low),
    driven.asked at t ((known.part_troubles n g.setting d.system c m.more closes.rules m.both at t low).1 (system.asked at a f k t there asks)),
  )
  part_trouble_back at a f k t there asks (inr is) =
      let e = mimics.env_part known g n closes d c m at a f k there is in
      let h = asks_only seen closes.limits port Fits plain_lines d.environment.doing m.more.term at.place f k t e.is (subst (λ (b : Context). Asks b f k t) e.context asks) in (
        part (environment_end g),
        subst (λ (b : End). SameSources env here [] (part b) (part (environment_end g))) (parts.end_is known g n closes d c m at is h.there) (parts env_there (environment_end g) of_env),
        subst (DrivenTroubles g d (part (environment_end g))) (sym h.trouble_is) (spent h.line h.rest h.values h.is h.sends h.more),
      )

  pub trouble_back : (source : Source) (t : Trouble) → Troubles (closed g n) c source t
      → (other : Source) × SameSources env here [] source other × DrivenTroubles g d other t
  trouble_back _ _ (system.asked at a f k t there asks) =
      part_trouble_back at a f k t there asks (mimics.which_part known g n closes d c m at a f k there)
  trouble_back _ _ (system.judged w s r message parcel t is says) =
      let p = paired.pair_back known g n closes d c m w s r message parcel is in (
        pair w p.sender p.receiver,
        pairs w s p.sender r p.receiver (matching.end_back env [] here p.sender s p.same_sender) (matching.end_back env [] here p.receiver r p.same_receiver),
        driven.judged w p.sender p.receiver message parcel t p.is (both.judged_back known g n closes d c m p.receiver r parcel (Err t) p.same_receiver says),
      )

  least_on : (t : Trouble) → IsLeastDrivenTrouble g d t → IsLeastTrouble (closed g n) c t
  least_on t is =
      let at = trouble_on is.source t is.occurs in
      record {
        source = at.0;
        occurs = at.2;
        least = λ other u h before. (let old = trouble_back other u h in
            is.least old.0 u old.2 (matching.source_before env here [] other old.0 at.0 is.source old.1 (matching.source_back env [] here is.source at.0 at.1) before));
      }

  least_back : (t : Trouble) → IsLeastTrouble (closed g n) c t → IsLeastDrivenTrouble g d t
  least_back t is =
      let at = trouble_back is.source t is.occurs in
      record {
        source = at.0;
        occurs = at.2;
        least = λ other u h before. (let new = trouble_on other u h in
            is.least new.0 u new.2 (matching.source_before env [] here other new.0 at.0 is.source new.1 (matching.source_back env here [] is.source at.0 at.1) before));
      }

  -- Delays

  left_on : (left : ℕ) → IsDrivenLeft g d left → IsLeft (closed g n) c left
  left_on _ (driven.of_process left is) =
      (known.left n g.setting d.system c m.more closes.rules m.both left).0 is
  left_on _ (driven.of_environment left x rest is) =
      let e = delays_there seen closes.limits port Fits plain_lines left x rest m.more.term (subst (λ (k : Doing). IsDoing port Fits k m.more.term) is m.does) in
      record {
        at = record { process = env; place = 0 ∷ 0 ∷ [] };
        seen = seen;
        frame = 1;
        part = e.part;
        active = mimics.part_there known g n closes d c m (0 ∷ 0 ∷ []) e.part e.active;
        delays = e.delays;
      }

  left_back : (left : ℕ) → IsLeft (closed g n) c left → IsDrivenLeft g d left
  left_back left is = by (mimics.which_part known g n closes d c m is.at is.seen is.frame is.part is.active)
    where
      by : (is.at.process < env) ⊎ (is.at.process ≡ env) → IsDrivenLeft g d left
      by (inl low) =
          driven.of_process left ((known.left n g.setting d.system c m.more closes.rules m.both left).1 is low)
      by (inr there) =
          let e = mimics.env_part known g n closes d c m is.at is.seen is.frame is.part is.active there in
          let h = delays_only seen closes.limits port Fits plain_lines d.environment.doing m.more.term is.at.place is.frame is.part left e.is (subst (λ (b : Context). Delays b is.frame is.part left) e.context is.delays) in
          driven.of_environment left h.line h.rest h.is

  -- Terms that are too high

  high_back : (t : Trouble) → IsFirstHigh (closed g n) c t → IsFirstHigh g.setting d.system t
  high_back t is = by (mimics.which known g n closes d c m is.number is.process is.seen is.stands)
    where
      by : (is.number < env) ⊎ (is.number ≡ env) → IsFirstHigh g.setting d.system t
      by (inl low) = (known.high n g.setting d.system c m.more closes.rules m.both t).1 is low
      by (inr there) =
          let e = mimics.of_environment known g n closes d c m is.number is.process is.seen is.stands there in
          let low : height m.more.term ≤ 3 = doing_low port Fits d.environment.doing m.more.term m.does in
          let tall : 3 ≤ g.setting.limits.height = closes.limits.height in
          let same : height is.process.term ≡ height m.more.term = ap (λ (p : Process). height p.term) e.process in
          let high : g.setting.limits.height < height is.process.term = is.high in
          absurd (omega (arith, low, tall, same, high))

  -- The end

  over_on : AllOver g d → AllDone c
  over_on is =
      (known.done g.setting d.system c m.more m.both).0 (is.system, over_done port Fits d.environment.doing m.more.term m.does is.environment)

  over_back : AllDone c → AllOver g d
  over_back is =
      let h = (known.done g.setting d.system c m.more m.both).1 is in
      record { system = h.0; environment = done_over port Fits d.environment.doing m.more.term m.does h.1 }

  -- Moments

  candidate_on : (k : Moment) → DrivenCandidate g d k → Candidate (closed g n) c k
  candidate_on _ (driven.high t is) =
      system.high t ((known.high n g.setting d.system c m.more closes.rules m.both t).0 is)
  candidate_on _ (driven.faulty t is) = system.faulty t (least_on t is)
  candidate_on _ (driven.acting actions is some) =
      let o = both.offers_on known g n closes d c m actions is in
      let long : length actions ≡ length o.others = length_all_zip (both.Actions known g n closes d c m) actions o.others o.same in
      subst (λ (k : ℕ). Candidate (closed g n) c (ActionsMoment k)) (sym long) (system.acting o.others o.are (omega (arith, some, long)))
  candidate_on _ (driven.passing time is) =
      system.passing time (record { is_left = left_on time is.is_left; least = λ left h. is.least left (left_back left h) })
  candidate_on _ (driven.finished is) = system.finished (over_on is)
  candidate_on _ driven.deadlock = system.deadlock

  candidate_back : (k : Moment) → Candidate (closed g n) c k → DrivenCandidate g d k
  candidate_back _ (system.high t is) = driven.high t (high_back t is)
  candidate_back _ (system.faulty t is) = driven.faulty t (least_back t is)
  candidate_back _ (system.acting actions is some) =
      let o = both.offers_back known g n closes d c m actions is in
      let long : length actions ≡ length o.others = length_all_zip (SameActions env here []) actions o.others o.same in
      subst (λ (k : ℕ). DrivenCandidate g d (ActionsMoment k)) (sym long) (driven.acting o.others o.are (omega (arith, some, long)))
  candidate_back _ (system.passing time is) =
      driven.passing time (record { is_left = left_back time is.is_left; least = λ left h. is.least left (left_on left h) })
  candidate_back _ (system.finished is) = driven.finished (over_back is)
  candidate_back _ system.deadlock = driven.deadlock

  pub moment_on : (k : Moment) → IsDrivenMoment g d k → IsMoment (closed g n) c k
  moment_on k is = record { applies = candidate_on k is.applies; first = λ j h. is.first j (candidate_back j h) }

  pub moment_back : (k : Moment) → IsMoment (closed g n) c k → IsDrivenMoment g d k
  moment_back k is = record { applies = candidate_back k is.applies; first = λ j h. is.first j (candidate_on j h) }
