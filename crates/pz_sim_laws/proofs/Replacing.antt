-- One process is replaced, and the others stay.
use Rattle.std.proofs.Common.{◌≡◌, ◌≢◌, ◌<◌, ◌≤◌, ◌⊎◌, inl, inr, ℕ, Bool, true, false, not, ◌||◌, nat_eq, List, set, Some, refl, sym, subst, ap, ◌∙◌, arith}
use Rattle.std.specs.Prelude.{slice_get, filter, All, Contains}
use Rattle.std.proofs.lemmas.Bool.{cases_lt, true≢false, eq-eqb}
use Rattle.std.proofs.lemmas.List.{length-set}
use Rattle.pz_match.specs.declared.offers.Sender.{Sender}
use Rattle.pz_match.specs.declared.offers.Receiver.{Receiver}
use Rattle.pz_match.specs.Pairs.{Judged, touches}
use Rattle.pz_sim_laws.specs.Members.{Member}
use Rattle.pz_sim_laws.specs.Offering.{SendersOf, ReceiversOf, AreSenders, AreReceivers}
use Rattle.pz_sim_laws.specs.Couples.{IsTruthful}
use Rattle.pz_sim_laws.proofs.Lists.{all_got, all_by, set_same, set_other, kept_there, from_kept}

pub same_or_apart : (i j : ℕ) → (i ≡ j) ⊎ (i ≢ j)
same_or_apart i j = by (cases_lt i j) (cases_lt j i)
  where
    by : (i < j) ⊎ (j ≤ i) → (j < i) ⊎ (i ≤ j) → (i ≡ j) ⊎ (i ≢ j)
    by (inl less) other = inr (λ e. omega (arith, less, e))
    by (inr more) (inl less) = inr (λ e. omega (arith, less, e))
    by (inr more) (inr most) = inl (omega (arith, more, most))

-- a row for each, of one is replaced
module _ {Row : Type 0} (Of : ℕ → Member → Row → Type 0) (ms : List Member) (rows : List Row) (i : ℕ) (m : Member) (row : Row) where
  pub replaced : ((j : ℕ) (n : Member) (r : Row) → slice_get ms j ≡ Some n → slice_get rows j ≡ Some r → Of j n r) → Of i m row
      → (j : ℕ) (n : Member) (r : Row) → slice_get (set ms i m) j ≡ Some n → slice_get (set rows i row) j ≡ Some r → Of j n r
  replaced each of j n r is_n is_r = by (same_or_apart i j)
    where
      by : (i ≡ j) ⊎ (i ≢ j) → Of j n r
      by (inl same) =
          let member : n ≡ m = set_same ms i m n (ap (slice_get (set ms i m)) same ∙ is_n) in
          let one : r ≡ row = set_same rows i row r (ap (slice_get (set rows i row)) same ∙ is_r) in
          subst (λ (k : ℕ). Of k n r) same (subst (λ (x : Member). Of i x r) (sym member) (subst (λ (x : Row). Of i m x) (sym one) of))
      by (inr apart) = each j n r (sym (set_other ms i j m apart) ∙ is_n) (sym (set_other rows i j row apart) ∙ is_r)

pub senders_replaced : (ms : List Member) (rows : List (List Sender)) (i : ℕ) (m : Member) (row : List Sender) → AreSenders ms rows → SendersOf i m row → AreSenders (set ms i m) (set rows i row)
senders_replaced ms rows i m row are of = record {
  all = length-set rows i row ∙ are.all ∙ sym (length-set ms i m);
  each = replaced SendersOf ms rows i m row are.each of;
}

pub receivers_replaced : (ms : List Member) (rows : List (List Receiver)) (i : ℕ) (m : Member) (row : List Receiver) → AreReceivers ms rows → ReceiversOf i m row → AreReceivers (set ms i m) (set rows i row)
receivers_replaced ms rows i m row are of = record {
  all = length-set rows i row ∙ are.all ∙ sym (length-set ms i m);
  each = replaced ReceiversOf ms rows i m row are.each of;
}

or_second : (a b : Bool) → a || b ≡ false → b ≡ false
or_second false b e = e
or_second true b e = absurd (true≢false e)

not_false : (b : Bool) → b ≡ false → not b ≡ true
not_false b e = ap not e

-- a receive of another process
other_process : (i : ℕ) (p : Judged) → touches i p ≡ false → i ≢ p.receiver.end.process
other_process i p calm same = true≢false (sym (eq-eqb p.receiver.end.process i (sym same)) ∙ or_second (nat_eq p.sender.end.process i) (nat_eq p.receiver.end.process i) calm)

still_truthful : (ms : List Member) (i : ℕ) (m : Member) (p : Judged) → touches i p ≡ false → IsTruthful ms p → IsTruthful (set ms i m) p
still_truthful ms i m p calm h = record { free = h.free; asked = λ is n there. h.asked is n (sym (set_other ms i p.receiver.end.process m (other_process i p calm)) ∙ there) }

pub others_truthful : (ms : List Member) (i : ℕ) (m : Member) (old new : List Judged) → All (IsTruthful ms) old → filter (λ p. not (touches i p)) new ≡ filter (λ p. not (touches i p)) old
    → All (λ p. touches i p ≡ true → IsTruthful (set ms i m) p) new → All (IsTruthful (set ms i m)) new
others_truthful ms i m old new truthful same touched = all_by (IsTruthful (set ms i m)) new (λ p there. by p there (touches i p) refl)
  where
    by : (p : Judged) → Contains new p → (b : Bool) → touches i p ≡ b → IsTruthful (set ms i m) p
    by p there true is = all_got (λ (q : Judged). touches i q ≡ true → IsTruthful (set ms i m) q) new p touched there is
    by p there false is =
        let kept : Contains (filter (λ (q : Judged). not (touches i q)) old) p =
        subst (λ (l : List Judged). Contains l p) same (kept_there (λ (q : Judged). not (touches i q)) new p there (not_false (touches i p) is)) in
        still_truthful ms i m p is (all_got (IsTruthful ms) old p truthful (from_kept (λ (q : Judged). not (touches i q)) old p kept).0)
