-- A receive that is linked before those behind it.
use Rattle.std.proofs.Common.{◌≡◌, ◌≤◌, ◌<◌, ◌+◌, ◌⊎◌, inl, inr, refl, sym, ◌∙◌, ap, subst, ℕ, Bool, true, false, cond, ◌&&◌, not, nat_eq, List, [], ◌∷◌, length, drop, set, Option, Some, unwrap_or, if◌then◌else◌, arith}
use Rattle.std.specs.List.{slice_get}
use Rattle.std.specs.Str.{bytes_eq}
use Rattle.std.specs.Cmp.{nat_eq_equiv}
use Rattle.std.proofs.lemmas.Bool.{eqb-true, and_parts}
use Rattle.std.proofs.lemmas.Cmp.{nat_list_eq_equiv}
use Rattle.std.proofs.lemmas.List.{length-set, drop-set, drop-set-lt, drop_all}
use Rattle.std.proofs.lemmas.Slice.Eq.{bytes_eq-Decides}
use Rattle.std.specs.Map.{lookup}
use Rattle.pz_term_matching.specs.declared.ends.Receiver.{Receiver}
use Rattle.pz_term_matching.specs.declared.key.Key.{Key}
use Rattle.pz_term_matching.specs.declared.chains.Link.{Link}
use Rattle.pz_term_matching.specs.declared.chains.Chains.{Chains}
use Rattle.pz_term_matching.specs.devices.Chains.{hears, hears_elsewhere, first_from, link_from, links_from, found_in, passing, past_process, AreChainsFrom}
use Rattle.pz_term_matching.proofs.Firsts.{at_head, past_end, first_after, rest_from, rest_is, rest_passes, skips}

-- what a receive has that is heard
pub record Heard (w : ℕ) (m : List ℕ) (n : ℕ) (r : Receiver) : Type 0 where
  pub wire : w ≡ r.wire
  pub message : m ≡ r.message
  pub count : n ≡ r.count

pub heard : (wire : ℕ) (message : List ℕ) (count : ℕ) (r : Receiver) → hears wire message count r ≡ true → Heard wire message count r
heard wire message count r is =
    let all = and_parts (nat_eq wire r.wire) (bytes_eq message r.message && nat_eq count r.count) is in
    let both = and_parts (bytes_eq message r.message) (nat_eq count r.count) all.1 in
    record { wire = eqb-true wire r.wire all.0; message = (bytes_eq-Decides message r.message).0 both.0; count = eqb-true count r.count both.1 }

module _ (wire : ℕ) (message : List ℕ) (count : ℕ) (process : ℕ) where
  -- the place of the first that is heard, or the next one elsewhere
  past_at : (all : List Receiver) (links : List Link) (place : ℕ) (rest : List Receiver)
      → drop place links ≡ links_from place (drop place all) → drop place all ≡ rest → ((x : Receiver) (more : List Receiver) → rest ≡ x ∷ more → hears wire message count x ≡ true)
      → past_process all links process place ≡ first_from (hears_elsewhere wire message count process) place rest
  past_at all links place [] linked is passes = λ i. passing (past_end all place is i) (slice_get links place) process place
  past_at all links place (x ∷ more) linked is passes =
      let there : slice_get all place ≡ Some x = at_head all place x more is in
      let link : slice_get links place ≡ Some (link_from place x more) = at_head links place (link_from place x more) (links_from (place + 1) more) (linked ∙ ap (links_from place) is) in
      (λ i. passing (there i) (link i) process place) ∙ by (nat_eq process x.end.process) refl
    where
      here : hears wire message count x ≡ true
      here = passes x more refl

      like : Heard wire message count x
      like = heard wire message count x here

      by : (b : Bool) → nat_eq process x.end.process ≡ b
          → (if b then first_from (hears_elsewhere x.wire x.message x.count x.end.process) (place + 1) more else place)
          ≡ (if hears wire message count x && not b then place else first_from (hears_elsewhere wire message count process) (place + 1) more)
      by true same =
          let one : process ≡ x.end.process = eqb-true process x.end.process same in
          sym
          (ap (λ (v : Bool). if v && not true then place else first_from (hears_elsewhere wire message count process) (place + 1) more) here
          ∙ (λ i. first_from (hears_elsewhere (like.wire i) (like.message i) (like.count i) (one i)) (place + 1) more))
      by false apart = sym (ap (λ (v : Bool). if v && not false then place else first_from (hears_elsewhere wire message count process) (place + 1) more) here)

  pub past_is : (all : List Receiver) (links : List Link) (place : ℕ) → ((i : ℕ) → place ≤ i → drop i links ≡ links_from i (drop i all)) → place ≤ first_from (hears wire message count) place (drop place all)
      → past_process all links process (first_from (hears wire message count) place (drop place all)) ≡ first_from (hears_elsewhere wire message count process) place (drop place all)
  past_is all links place linked later =
      past_at all links (first_from (hears wire message count) place (drop place all)) (rest_from (hears wire message count) (drop place all))
      (linked (first_from (hears wire message count) place (drop place all)) later) (rest_is (hears wire message count) all place (drop place all) refl)
      (rest_passes (hears wire message count) (drop place all))
      ∙ sym
      (skips (hears wire message count) (first_from (hears_elsewhere wire message count process))
      (λ n r rs fails. ap (λ (v : Bool). if v && not (nat_eq process r.end.process) then n else first_from (hears_elsewhere wire message count process) (n + 1) rs) fails) place (drop place all))

same_key : (key q : Key) (r : Receiver) → key.wire ≡ r.wire → key.message.now ≡ r.message → key.count ≡ r.count
    → (nat_eq key.wire q.wire && (bytes_eq key.message.now q.message.now && nat_eq key.count q.count)) ≡ hears q.wire q.message.now q.count r
same_key key q r wire message count =
    let w : nat_eq key.wire q.wire ≡ nat_eq q.wire r.wire = nat_eq_equiv.symm key.wire q.wire ∙ ap (nat_eq q.wire) wire in
    let m : bytes_eq key.message.now q.message.now ≡ bytes_eq q.message.now r.message = nat_list_eq_equiv.symm key.message.now q.message.now ∙ ap (bytes_eq q.message.now) message in
    let n : nat_eq key.count q.count ≡ nat_eq q.count r.count = nat_eq_equiv.symm key.count q.count ∙ ap (nat_eq q.count) count in
    λ i. w i && (m i && n i)

abbrev link : ℕ → ℕ → Link
link next elsewhere = record { next = next; elsewhere = elsewhere }

module _ (all : List Receiver) (old new : Chains) (place : ℕ) (r : Receiver) (key : Key) (next elsewhere : ℕ)
    (behind : AreChainsFrom (place + 1) all old) (within : place < length all) (at : drop place all ≡ r ∷ drop (place + 1) all)
    (wire : key.wire ≡ r.wire) (message : key.message.now ≡ r.message) (count : key.count ≡ r.count)
    (is_next : next ≡ unwrap_or (found_in old key) (length all)) (is_elsewhere : elsewhere ≡ past_process all old.links.items r.end.process next)
    (noted : (q : Key) → found_in new q ≡ cond (nat_eq key.wire q.wire && (bytes_eq key.message.now q.message.now && nat_eq key.count q.count)) (Some place) (found_in old q))
    (written : new.links.items ≡ set old.links.items place (record { next = next; elsewhere = elsewhere })) where
  firsts_more : (q : Key) → unwrap_or (found_in new q) (length all) ≡ first_from (hears q.wire q.message.now q.count) place (drop place all)
  firsts_more q =
      ap (λ (o : Option ℕ). unwrap_or o (length all)) (noted q)
      ∙ (ap (λ (b : Bool). unwrap_or (cond b (Some place) (found_in old q)) (length all)) (same_key key q r wire message count)
      ∙ (by (hears q.wire q.message.now q.count r)
      ∙ sym (ap (first_from (hears q.wire q.message.now q.count) place) at)))
    where
      by : (b : Bool) → unwrap_or (cond b (Some place) (found_in old q)) (length all) ≡ (if b then place else first_from (hears q.wire q.message.now q.count) (place + 1) (drop (place + 1) all))
      by true = refl
      by false = behind.firsts q

  to_next : next ≡ first_from (hears r.wire r.message r.count) (place + 1) (drop (place + 1) all)
  to_next = is_next ∙ (behind.firsts key ∙ (λ i. first_from (hears (wire i) (message i) (count i)) (place + 1) (drop (place + 1) all)))

  to_elsewhere : elsewhere ≡ first_from (hears_elsewhere r.wire r.message r.count r.end.process) (place + 1) (drop (place + 1) all)
  to_elsewhere =
      is_elsewhere
      ∙ (ap (past_process all old.links.items r.end.process) to_next
      ∙ past_is r.wire r.message r.count r.end.process all old.links.items (place + 1) behind.links (first_after (hears r.wire r.message r.count) (place + 1) (drop (place + 1) all)))

  links_here : drop place new.links.items ≡ links_from place (drop place all)
  links_here =
      let room : place < length old.links.items = omega (arith, within, behind.counted) in
      ap (drop place) written
      ∙ (drop-set old.links.items place (link next elsewhere) room
      ∙ ((λ i. link (to_next i) (to_elsewhere i) ∷ behind.links (place + 1) (omega arith) i)
      ∙ sym (ap (links_from place) at)))

  links_more : (i : ℕ) → place ≤ i → drop i new.links.items ≡ links_from i (drop i all)
  links_more i from =
      elim (split i from) [
        | inl here ↦ subst (λ (n : ℕ). drop n new.links.items ≡ links_from n (drop n all)) here links_here
        | inr later ↦ ap (drop i) written ∙ (drop-set-lt i old.links.items place (link next elsewhere) (omega (arith, later)) ∙ behind.links i later)
      ]
    where
      split : (n : ℕ) → place ≤ n → (place ≡ n) ⊎ (place + 1 ≤ n)
      split n h = grind arith

  pub linked : AreChainsFrom place all new
  linked = record {
    counted = ap length written ∙ (length-set old.links.items place (link next elsewhere) ∙ behind.counted);
    firsts = firsts_more;
    links = links_more;
  }

-- before any is linked
pub none_linked : (all : List Receiver) (chains : Chains) → chains.firsts.entries ≡ [] → length chains.links.items ≡ length all → AreChainsFrom (length all) all chains
none_linked all chains empty counted =
    let none : drop (length all) all ≡ [] = drop_all (length all) all (omega arith) in
    record {
      counted = counted;
      firsts = λ q.
          ap (λ es. unwrap_or (lookup (λ (k : Key). nat_eq q.wire k.wire && (bytes_eq q.message.now k.message.now && nat_eq q.count k.count)) es) (length all)) empty
          ∙ sym (ap (first_from (hears q.wire q.message.now q.count) (length all)) none);
      links = λ i from.
          let here : drop i chains.links.items ≡ [] = drop_all i chains.links.items (omega (arith, from, counted)) in
          let theirs : drop i all ≡ [] = drop_all i all (omega (arith, from)) in
          here ∙ sym (ap (links_from i) theirs);
    }
