-- What an action leads to in both is the same.
use Rattle.std.proofs.Common.{◌≡◌, ◌<◌, ◌≤◌, ◌+◌, ℕ, Bool, true, false, List, length, Result, Ok, Err, refl, sym, ap, subst, ◌∙◌, arith, nat_le, if◌then◌else◌}
use Rattle.std.proofs.lemmas.Bool.{le-leb, leb-true}
use Rattle.pz_env_tree.specs.pz_syntax.Classes.{ModelTree}
use Rattle.pz_env_tree.specs.pz_state.States.{object_limit}
use Rattle.pz_env_tree.specs.pz_state.declared.fault.FaultKind.TheVariants.{StoreFull}
use Rattle.pz_env_tree.specs.pz_copy.Parcels.{ParcelView}
use Rattle.pz_env_tree.specs.pz_offer.declared.end.End.{End}
use Rattle.pz_env_tree.specs.pz_offer.PlaceOrder.{Place}
use Rattle.pz_env_tree.specs.pz_offer.declared.trouble.Trouble.{Trouble}
use Rattle.pz_env_tree.specs.pz_offer.declared.trouble.Trouble.TheVariants.{Fault}
use Rattle.pz_env_tree.specs.pz_rules.declared.action.Action.{Action}
use Rattle.pz_env_tree.specs.pz_rules.Settings.{Process, Context}
use Rattle.pz_env_tree.specs.pz_rules.Meanings.{and_then, fault}
use Rattle.pz_env_tree.specs.pz_rules.Messages.{Fits}
use Rattle.pz_env_tree.specs.pz_rules.Configurations.{Config, IsWhole}
use Rattle.pz_env_tree.specs.pz_rules.Steps.{with_process, with_both, Next}
use Rattle.pz_env_tree.specs.pz_env_rules.Environment.{Line, at_line, Doing, offers, begins}
use Rattle.pz_env_tree.specs.pz_env_rules.Joining.{Driving}
use Rattle.pz_env_tree.specs.pz_env_rules.Driven.{Driven, stored}
use Rattle.pz_env_tree.specs.pz_env_rules.Steps.{in_system, doing_next, both_next}
use Rattle.pz_env_same.specs.OneMore.{behind, result_behind}
use Rattle.pz_env_mimics.specs.Closing.{Closes}
use Rattle.pz_env_mimics.proofs.Known.{Known}
use Rattle.pz_env_mimics.proofs.Moving.{Becomes, TakenOr, fits_in, too_full}
use Rattle.pz_env_mimics.proofs.Mimics as mimics
use Rattle.pz_env_mimics.proofs.Mimics.{Mimics, Fit, fit_plain}
use Rattle.pz_env_mimics.proofs.Parts as parts

never : (b : Bool) → (b ≡ true → ⊥) → b ≡ false
never true apart = absurd (apart refl)
never false apart = refl

module _ (known : Known) (g : Driving) (n : ModelTree) (closes : Closes g n) where
  abbrev env : ℕ
  env = mimics.env known g n closes

  abbrev port : Line → ℕ
  port = mimics.port known g n closes

  abbrev Fits_line : Line → Type 0
  Fits_line = Fit known g n closes

  abbrev Both : Driven → Config → Type 0
  Both = Mimics known g n closes

  -- the same outcome
  pub data SameNext : Result Driven Trouble → Result Config Trouble → Type 0 where
    goes : (d : Driven) (c : Config) → Both d c → SameNext (Ok d) (Ok c)
    fails : (t : Trouble) → SameNext (Err t) (Err t)

  module _ (d : Driven) (c : Config) (m : Both d c) where
    abbrev seen : Context
    seen = mimics.seen known g n closes d c m

    abbrev here : Place
    here = parts.here known g n closes d c m

    abbrev env_there : End
    env_there = record { process = env; place = here }

    abbrev Turns : Doing → ℕ → Result Process Trouble → Type 0
    Turns = Becomes port Fits_line

    -- a process has taken what the environment gives, or has given what it takes, and it goes on to these lines
    abbrev given : End → List Line → Process → Driven
    given r rest q = both_next d r.process q (record { doing = begins rest; objects = d.environment.objects })

    abbrev got : End → List Line → Process → ℕ → Driven
    got s rest p k = both_next d s.process p (record { doing = begins rest; objects = k })

    -- the objects that it has then
    abbrev total : ParcelView → ℕ
    total parcel = d.environment.objects + length parcel.objects

    -- of an action of the system
    pub system_next : (r : Result Config Trouble) → ((k : Config) → r ≡ Ok k → IsWhole g.setting k)
        → SameNext (and_then r (λ k. Ok (in_system d k))) (result_behind r m.more)
    system_next (Ok k) is_whole =
        goes (in_system d k) (behind k m.more) (record { more = m.more; both = record { whole = is_whole k refl; clock = refl; processes = refl }; does = m.does; has = m.has })
    system_next (Err t) is_whole = fails t

    pub still_whole : (a : Action) (r : Result Config Trouble) → Next g.setting d.system a r → (k : Config) → r ≡ Ok k → IsWhole g.setting k
    still_whole a r next k e =
        (known.stays_whole g.setting d.system k a 0 m.both.whole).0 (subst (Next g.setting d.system a) e next)

    -- of the end of a wait
    pub wait_next : (x : Line) (rest : List Line) (r : Result Process Trouble) → Turns (offers x rest) (length m.more.state.objects) r
        → SameNext (Ok (doing_next d (offers x rest))) (and_then r (λ p. Ok (with_process c env p)))
    wait_next x rest r is =
        subst (SameNext (Ok (doing_next d (offers x rest)))) (ap (λ (q : Result Process Trouble). and_then q (λ p. Ok (with_process c env p))) (sym is.is))
        (goes (doing_next d (offers x rest)) (with_process c env is.process) (record {
          more = is.process;
          both = known.more_becomes g.setting d.system c m.more is.process m.both;
          does = is.does;
          has = is.has ∙ m.has;
        }))

    -- of a send of the environment
    pub give_next : (r : End) (rest : List Line) (sent taken : Result Process Trouble) → r.process < env
        → Turns (begins rest) (length m.more.state.objects) sent
        → SameNext (and_then taken (λ q. Ok (given r rest q)))
        (and_then sent (λ p. and_then taken (λ q. Ok (with_both c env_there r p q))))
    give_next r rest sent taken low is =
        subst
        (λ (s : Result Process Trouble). SameNext (and_then taken (λ q. Ok (given r rest q))) (and_then s (λ p. and_then taken (λ q. Ok (with_both c env_there r p q)))))
        (sym is.is)
        (by taken)
      where
        by : (t : Result Process Trouble)
            → SameNext (and_then t (λ q. Ok (given r rest q))) (and_then t (λ q. Ok (with_both c env_there r is.process q)))
        by (Ok q) =
            let one = known.more_becomes g.setting d.system c m.more is.process m.both in
            goes (given r rest q) (with_both c env_there r is.process q) (record {
              more = is.process;
              both = known.becomes g.setting d.system (with_process c env is.process) is.process r.process q low one;
              does = is.does;
              has = is.has ∙ m.has;
            })
        by (Err t) = fails t

    -- of a receive of the environment
    pub get_next : (s : End) (x : Line) (rest : List Line) (parcel : ParcelView) (sent taken : Result Process Trouble) → s.process < env
        → TakenOr seen port Fits_line x rest parcel taken
        → SameNext (and_then sent (λ p. and_then (stored g d x parcel) (λ k. Ok (got s rest p k))))
        (and_then sent (λ p. and_then taken (λ q. Ok (with_both c s env_there p q))))
    get_next s x rest parcel (Err t) taken low is = fails t
    get_next s x rest parcel (Ok p) taken low (fits_in room is) =
        let count : total parcel ≡ length m.more.state.objects + length parcel.objects = ap (λ (k : ℕ). k + length parcel.objects) (sym m.has) in
        let roomy : nat_le (total parcel) object_limit ≡ true = le-leb (total parcel) object_limit (omega (arith, count, room)) in
        let is_stored : stored g d x parcel ≡ Ok (total parcel) =
        ap (λ (b : Bool). if b then Ok (total parcel) else fault StoreFull env (at_line x)) roomy
        in
        let one = known.becomes g.setting d.system c m.more s.process p low m.both in
        subst
        (λ (k : Result ℕ Trouble). SameNext (and_then k (λ k. Ok (got s rest p k))) (and_then taken (λ q. Ok (with_both c s env_there p q))))
        (sym is_stored)
        (subst
        (λ (t : Result Process Trouble). SameNext (Ok (got s rest p (total parcel))) (and_then t (λ q. Ok (with_both c s env_there p q))))
        (sym is.is)
        (goes (got s rest p (total parcel)) (with_both c s env_there p is.process) (record {
          more = is.process;
          both = known.more_becomes g.setting (with_process d.system s.process p) (with_process c s.process p) m.more is.process one;
          does = is.does;
          has = is.has ∙ sym count;
        })))
    get_next s x rest parcel (Ok p) taken low (too_full unfit is) =
        let count : total parcel ≡ length m.more.state.objects + length parcel.objects = ap (λ (k : ℕ). k + length parcel.objects) (sym m.has) in
        let full : nat_le (total parcel) object_limit ≡ false = never (nat_le (total parcel) object_limit) (λ e. too_many count unfit (leb-true (total parcel) object_limit e)) in
        let is_stored : stored g d x parcel ≡ fault StoreFull env (at_line x) =
        ap (λ (b : Bool). if b then Ok (total parcel) else fault StoreFull env (at_line x)) full
        in
        subst
        (λ (k : Result ℕ Trouble). SameNext (and_then k (λ k. Ok (got s rest p k))) (and_then taken (λ q. Ok (with_both c s env_there p q))))
        (sym is_stored)
        (subst
        (λ (t : Result Process Trouble). SameNext (fault StoreFull env (at_line x)) (and_then t (λ q. Ok (with_both c s env_there p q))))
        (sym is)
        (fails (Fault StoreFull env (at_line x))))
      where
        too_many : total parcel ≡ length m.more.state.objects + length parcel.objects → ¬ Fits seen parcel
            → total parcel ≤ object_limit → ⊥
        too_many count unfit fits = unfit (omega (arith, count, fits))
