-- What a part leaves of itself has no delay that has begun.
use Rattle.std.proofs.Common.{ℕ, Bool, true, false, length, Result, Ok, Err}
use Rattle.pz_bind_rules.specs.pz_syntax.declared.tokens.Pos.{Pos}
use Rattle.pz_bind_rules.specs.pz_syntax.Statements as statement
use Rattle.pz_offer.specs.pz_copy.Parcels.{ParcelView}
use Rattle.pz_offer.specs.declared.trouble.Trouble.{Trouble}
use Rattle.pz_rules.specs.Terms.{Term}
use Rattle.pz_rules.specs.Settings.{Process, Context, home_of}
use Rattle.pz_rules.specs.FrameNumbers.{least_free}
use Rattle.pz_rules.specs.Opening.{opened_all}
use Rattle.pz_rules.specs.InternalActions.{Performs, skips, evaluates, evaluates_block, tests, repeats, elapses, expires, calls, done_in, chosen, turned, entered, with_inputs}
use Rattle.pz_rules.specs.Meanings.{and_then, truth}
use Rattle.pz_rules.specs.Messages.{Hands, hands, Takes, takes, full}
use Rattle.pz_rules.specs.Short.{IsShort}
use Rattle.pz_rules.proofs.Opened.{framed_short, opened_all_short, opened_part_short}

abbrev pub OnShort : Result Process Trouble → Type 0
OnShort (Ok p) = IsShort p.term
OnShort (Err trouble) = Unit {0}

on_value : {A : Type 0} (r : Result A Trouble) (g : A → Result Process Trouble) → ((v : A) → OnShort (g v)) → OnShort (and_then r g)
on_value (Ok v) g h = h v
on_value (Err trouble) g h = tt

pub performed_short : (a : Context) (f : ℕ) (part : Term) (pos : Pos) (r : Result Process Trouble) → Performs a f part pos r → OnShort r
performed_short a f _ _ _ (skips at) = tt
performed_short a f _ _ _ (evaluates at e r s gives) = on_value r (λ v. Ok (done_in s)) (λ v. tt)
performed_short a f _ _ _ (evaluates_block at es r s gives) = on_value r (λ v. Ok (done_in s)) (λ v. tt)
performed_short a f _ _ _ (tests at e ts other r s gives) =
    on_value r (λ v. and_then (truth a.process at v) (λ b. Ok (chosen (home_of a) s ts other b)))
    (λ v. on_value (truth a.process at v) (λ b. Ok (chosen (home_of a) s ts other b)) by)
  where
    by : (b : Bool) → IsShort (chosen (home_of a) s ts other b).term
    by true = opened_all_short (home_of a) ts s
    by false = opened_part_short (home_of a) other s
performed_short a f _ _ _ (repeats at e ts r s gives) =
    on_value r (λ v. and_then (truth a.process at v) (λ b. Ok (turned (home_of a) s (statement.repeated at e ts) ts b)))
    (λ v. on_value (truth a.process at v) (λ b. Ok (turned (home_of a) s (statement.repeated at e ts) ts b)) by)
  where
    by : (b : Bool) → IsShort (turned (home_of a) s (statement.repeated at e ts) ts b).term
    by true = opened_all_short (home_of a) ts s
    by false = tt
performed_short a f _ _ _ (elapses at e) = tt
performed_short a f _ _ _ (expires left at) = tt
performed_short a f _ _ _ (calls at method args results r s locals body gives is) =
    on_value r (λ vs. Ok (entered (home_of a) s locals results body vs))
    (λ vs.
    let number = least_free s.frames in
    framed_short number (length vs) results (opened_all (home_of a) body (with_inputs s number locals vs)).term (opened_all_short (home_of a) body (with_inputs s number locals vs)))

pub handed_short : (a : Context) (f : ℕ) (parcel : ParcelView) (part : Term) (pos : Pos) (r : Result Process Trouble) → Hands a f parcel part pos r → OnShort r
handed_short a f parcel _ _ _ (hands at port name args block values s r left gives packed gives_too) = on_value r (λ v. Ok (done_in left)) (λ v. tt)

pub taken_short : (a : Context) (f : ℕ) (parcel : ParcelView) (part : Term) (pos : Pos) (r : Result Process Trouble) → Takes a f parcel part pos r → OnShort r
taken_short a f parcel _ _ _ (takes at port name into condition block r left fits gives) = on_value r (λ v. Ok (done_in left)) (λ v. tt)
taken_short a f parcel _ _ _ (full at port name into condition block unfit) = tt
