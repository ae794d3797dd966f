-- Questions, one after the other.
use Rattle.std.proofs.Common.{◌≡◌, ◌≢◌, ◌<◌, ◌+◌, refl, sym, ◌∙◌, ap, subst, ℕ, List, [], ◌++◌, length, drop, get_or, if◌then◌else◌}
use Rattle.std.specs.Prelude.{All, map}
use Rattle.std.specs.List.{flat_map}
use Rattle.std.proofs.lemmas.Bool.{ne_eqb, eq-eqb}
use Rattle.std.proofs.lemmas.List.{drop_more, append_assoc}
use Rattle.pz_offer.specs.pz_copy.Parcels.{ParcelView}
use Rattle.pz_offer.specs.declared.end.End.{End}
use Rattle.pz_match.specs.declared.offers.Sender.{Sender}
use Rattle.pz_match.specs.declared.rows.Row.{Row}
use Rattle.pz_match.specs.declared.kept.Receiving.{Receiving}
use Rattle.pz_match.specs.declared.kept.Offers.{Offers}
use Rattle.pz_match.specs.Judging.{Verdicts, Stays}
use Rattle.pz_match.specs.devices.Kept.{Kept, kept}
use Rattle.pz_match.specs.devices.Asking.{asked, asked_in, MayAsk, MayAskAll}
use Rattle.pz_match.proofs.Couples.{item_kept}

module _ {J : Type 0} {takes : J → End → ParcelView → End → Type 0} {verdict : J → Verdicts} {lent : J → List ℕ} where
  pub stays_same : (a : J) → Stays takes verdict lent a a
  stays_same a = record { takes_too = λ s p r t. t; says_so = λ s p r. refl; lent_so = refl }

  pub stays_next : {a b c : J} → Stays takes verdict lent a b → Stays takes verdict lent b c → Stays takes verdict lent a c
  stays_next f g = record { takes_too = λ s p r t. g.takes_too s p r (f.takes_too s p r t); says_so = λ s p r. g.says_so s p r ∙ f.says_so s p r; lent_so = g.lent_so ∙ f.lent_so }

  -- what it says is the same
  pub says_same : {a b : J} → Stays takes verdict lent a b → verdict b ≡ verdict a
  says_same f = λ i s p r. f.says_so s p r i

module _ {J : Type 0} (takes : J → End → ParcelView → End → Type 0) (verdict : J → Verdicts) (lent : J → List ℕ) (a b : J) (stays : Stays takes verdict lent a b) where
  pub may_ask : (s : Sender) (g : ℕ) (rs : List Receiving) → All (MayAsk takes a s g) rs → All (MayAsk takes b s g) rs
  may_ask s g rs may = λ k d lt asks. stays.takes_too s.end s.parcel (get_or rs k d).receiver.end (may k d lt asks)

-- of the receives of a process
pub may_ask_in : {J : Type 0} (takes : J → End → ParcelView → End → Type 0) (a : J) (s : Sender) (g : ℕ) (all : List Offers) (i : ℕ) (e : Offers) → i < length all → e ≡ get_or all i e → e.process ≢ s.end.process
    → All (MayAskAll takes a s g) (map kept all) → All (MayAsk takes a s g) (kept e).receives
may_ask_in takes a s g all i e lt is other may =
    let item = item_kept all i e lt is in
    subst (MayAskAll takes a s g) (sym item.1) (may i (kept e) item.0) (ne_eqb e.process s.end.process other)

module _ (f : Kept → List Row) (all : List Offers) (i : ℕ) (e : Offers) (lt : i < length all) (is : e ≡ get_or all i e) where
  left : flat_map f (map kept (drop i all)) ≡ f (kept e) ++ flat_map f (map kept (drop (i + 1) all))
  left = ap (λ (xs : List Offers). flat_map f (map kept xs)) (drop_more all i e lt) ∙ ap (λ (x : Offers). f (kept x) ++ flat_map f (map kept (drop (i + 1) all))) (sym is)

  pub rows_next : (rows now whole : List Row) → now ≡ rows ++ f (kept e) → rows ++ flat_map f (map kept (drop i all)) ≡ whole → now ++ flat_map f (map kept (drop (i + 1) all)) ≡ whole
  rows_next rows now whole more before =
      ap (λ (xs : List Row). xs ++ flat_map f (map kept (drop (i + 1) all))) more
      ∙ (append_assoc rows (f (kept e)) (flat_map f (map kept (drop (i + 1) all))) ∙ (ap (λ (xs : List Row). rows ++ xs) (sym left) ∙ before))

  pub rows_skip : (rows whole : List Row) → f (kept e) ≡ [] → rows ++ flat_map f (map kept (drop i all)) ≡ whole → rows ++ flat_map f (map kept (drop (i + 1) all)) ≡ whole
  rows_skip rows whole none before = ap (λ (xs : List Row). rows ++ xs) (sym (left ∙ ap (λ (xs : List Row). xs ++ flat_map f (map kept (drop (i + 1) all))) none)) ∙ before

pub asked_own : (says : Verdicts) (s : Sender) (g : ℕ) (e : Kept) → e.process ≡ s.end.process → asked_in says s g e ≡ []
asked_own says s g e own = ap (λ b. if b then [] else asked says s g e.process e.receives) (eq-eqb e.process s.end.process own)

pub asked_other : (says : Verdicts) (s : Sender) (g : ℕ) (e : Kept) → e.process ≢ s.end.process → asked_in says s g e ≡ asked says s g e.process e.receives
asked_other says s g e other = ap (λ b. if b then [] else asked says s g e.process e.receives) (ne_eqb e.process s.end.process other)
