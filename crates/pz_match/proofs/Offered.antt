-- The parts of an update, put together.
use Rattle.std.proofs.Common.{◌≡◌, ◌<◌, ◌+◌, refl, sym, ◌∙◌, ap, ℕ, Bool, true, false, ◌&&◌, nat_eq, List, [], ◌∷◌, ◌++◌, length, drop, get_or, Option, Some, None, if◌then◌else◌, arith}
use Rattle.std.specs.List.{flat_map}
use Rattle.std.proofs.lemmas.List.{map-append, drop_more}
use Rattle.std.proofs.lemmas.List.Elements.{All-append, All-weaker, All-nil, All-cons}
use Rattle.std.proofs.lemmas.List.Concat.{flat_map-append}
use Rattle.pz_offer.specs.declared.ends.SendOffer.{SendOffer}
use Rattle.pz_offer.specs.declared.ends.ReceiveOffer.{ReceiveOffer}
use Rattle.std.specs.Option.{option_map_or}
use Rattle.pz_match.specs.declared.offers.Sender.{Sender}
use Rattle.pz_match.specs.declared.offers.Receiver.{Receiver}
use Rattle.pz_match.specs.declared.kept.Sending.{Sending}
use Rattle.pz_match.specs.declared.kept.Receiving.{Receiving}
use Rattle.pz_match.specs.declared.groups.Tally.{Tally}
use Rattle.pz_match.specs.Offers.{senders, sender, receiver}
use Rattle.pz_match.specs.Judging.{Verdicts}
use Rattle.pz_match.specs.devices.Kept.{Kept}
use Rattle.pz_match.specs.devices.Tallies.{GroupsView, Follows, Moves, Alike, SameTallies, nothing, no_tally, plus, send_tally, send_part, receive_tally, sends_part, receives_part, total_of, only_in, pick}
use Rattle.pz_match.specs.devices.Asking.{asked, asked_in, row_of}
use Rattle.pz_match.specs.devices.Holding.{SendKeyed, ReceiveKeyed}
use Rattle.pz_match.specs.devices.Updating.{Heard, Listens, Offered, Speaks}
use Rattle.pz_match.proofs.Grouped.{follows_same, follows_next}

-- Keys stay

pub send_keyed : {a b : GroupsView} → Follows a b → (s : Sending) → SendKeyed a s → SendKeyed b s
send_keyed f s key = f.marks s.group s.sender.wire s.sender.message (length s.sender.parcel.values) key

pub receive_keyed : {a b : GroupsView} → Follows a b → (r : Receiving) → ReceiveKeyed a r → ReceiveKeyed b r
receive_keyed f r key = f.marks r.group r.receiver.wire r.receiver.message r.receiver.count key

-- Moves, one after the other

pub moves_none : (a : GroupsView) → Moves a a nothing nothing
moves_none a g = record { sends = refl; free = refl; own = refl; asking = refl; yes = refl; troubles = refl }

pub moves_same : (a b c : GroupsView) (less more : ℕ → Tally) → SameTallies a b → Moves b c less more → Moves a c less more
moves_same a b c less more same m g =
    let s = same g in let h = m g in
    record { sends = omega (arith, s.sends, h.sends); free = omega (arith, s.free, h.free); own = omega (arith, s.own, h.own); asking = omega (arith, s.asking, h.asking); yes = omega (arith, s.yes, h.yes); troubles = omega (arith, s.troubles, h.troubles) }

pub moves_next : (a b c : GroupsView) (l m n x y z : ℕ → Tally) → ((g : ℕ) → Alike (n g) (plus (l g) (m g))) → ((g : ℕ) → Alike (z g) (plus (x g) (y g))) → Moves a b l x → Moves b c m y → Moves a c n z
moves_next a b c l m n x y z less more f k g =
    let p = less g in let q = more g in let h = f g in let j = k g in
    record {
      sends = omega (arith, p.sends, q.sends, h.sends, j.sends);
      free = omega (arith, p.free, q.free, h.free, j.free);
      own = omega (arith, p.own, q.own, h.own, j.own);
      asking = omega (arith, p.asking, q.asking, h.asking, j.asking);
      yes = omega (arith, p.yes, q.yes, h.yes, j.yes);
      troubles = omega (arith, p.troubles, q.troubles, h.troubles, j.troubles);
    }

pub receives_append : (xs ys : List Receiving) (g : ℕ) → Alike (receives_part (xs ++ ys) g) (plus (receives_part xs g) (receives_part ys g))
receives_append [] ys g = record { sends = omega arith; free = omega arith; own = omega arith; asking = omega arith; yes = omega arith; troubles = omega arith }
receives_append (x ∷ xs) ys g =
    let s = receives_append xs ys g in
    record { sends = omega (arith, s.sends); free = omega (arith, s.free); own = omega (arith, s.own); asking = omega (arith, s.asking); yes = omega (arith, s.yes); troubles = omega (arith, s.troubles) }

pub sends_append : (rs : List Receiving) (xs ys : List Sending) (g : ℕ) → Alike (sends_part rs (xs ++ ys) g) (plus (sends_part rs xs g) (sends_part rs ys g))
sends_append rs [] ys g = record { sends = omega arith; free = omega arith; own = omega arith; asking = omega arith; yes = omega arith; troubles = omega arith }
sends_append rs (x ∷ xs) ys g =
    let s = sends_append rs xs ys g in
    record { sends = omega (arith, s.sends); free = omega (arith, s.free); own = omega (arith, s.own); asking = omega (arith, s.asking); yes = omega (arith, s.yes); troubles = omega (arith, s.troubles) }

-- Receives

pub heard_none : (a : GroupsView) (process : ℕ) → Heard a a nothing process [] []
heard_none a process = record { follows = follows_same a; moves = moves_none a; keyed = All-nil (ReceiveKeyed a); same = refl }

pub heard_next : {a b c : GroupsView} {l m n : ℕ → Tally} {process : ℕ} {xs ys : List ReceiveOffer} {more less : List Receiving} → ((g : ℕ) → Alike (n g) (plus (l g) (m g))) → Heard a b l process xs more → Heard b c m process ys less → Heard a c n process (xs ++ ys) (more ++ less)
heard_next {a} {b} {c} {l} {m} {n} {process} {xs} {ys} {more} {less} adds h k = record {
  follows = follows_next h.follows k.follows;
  moves = moves_next a b c l m n (receives_part more) (receives_part less) (receives_part (more ++ less)) adds (receives_append more less) h.moves k.moves;
  keyed = All-append (ReceiveKeyed c) more less (All-weaker (ReceiveKeyed b) (ReceiveKeyed c) (receive_keyed k.follows) more h.keyed) k.keyed;
  same = map-append (λ (r : Receiving). r.receiver) more less ∙ ((λ i. h.same i ++ k.same i) ∙ sym (flat_map-append _ xs ys));
}

-- Sends

module _ (says : Verdicts) (all : List Kept) (rs : List Receiving) where
  pub offered_none : (a : GroupsView) (process : ℕ) → Offered says all rs a a nothing process [] []
  offered_none a process = record { follows = follows_same a; moves = moves_none a; keyed = All-nil (SendKeyed a); same = refl; answered = All-nil (λ (s : Sending). s.rows ≡ flat_map (asked_in says s.sender s.group) all) }

  pub offered_next : {a b c : GroupsView} {l m n : ℕ → Tally} {process : ℕ} {xs ys : List SendOffer} {more less : List Sending} → ((g : ℕ) → Alike (n g) (plus (l g) (m g))) → Offered says all rs a b l process xs more → Offered says all rs b c m process ys less → Offered says all rs a c n process (xs ++ ys) (more ++ less)
  offered_next {a} {b} {c} {l} {m} {n} {process} {xs} {ys} {more} {less} adds h k = record {
    follows = follows_next h.follows k.follows;
    moves = moves_next a b c l m n (sends_part rs more) (sends_part rs less) (sends_part rs (more ++ less)) adds (sends_append rs more less) h.moves k.moves;
    keyed = All-append (SendKeyed c) more less (All-weaker (SendKeyed b) (SendKeyed c) (send_keyed k.follows) more h.keyed) k.keyed;
    same = map-append (λ (s : Sending). s.sender) more less ∙ ((λ i. h.same i ++ k.same i) ∙ sym (flat_map-append _ xs ys));
    answered = All-append (λ (s : Sending). s.rows ≡ flat_map (asked_in says s.sender s.group) all) more less h.answered k.answered;
  }

-- An offer that goes

module _ (a b c : GroupsView) (one zero_part : ℕ → Tally) (whole rest left : ℕ → Tally) where
  pub less_next : ((g : ℕ) → Alike (zero_part g) no_tally) → ((g : ℕ) → Alike (rest g) (plus (one g) (left g))) → Moves a b whole rest → Moves b c one zero_part → Moves a c whole left
  less_next none adds m n g =
      let z = none g in let s = adds g in let h = m g in let k = n g in
      record { sends = omega (arith, z.sends, s.sends, h.sends, k.sends); free = omega (arith, z.free, s.free, h.free, k.free); own = omega (arith, z.own, s.own, h.own, k.own); asking = omega (arith, z.asking, s.asking, h.asking, k.asking); yes = omega (arith, z.yes, s.yes, h.yes, k.yes); troubles = omega (arith, z.troubles, s.troubles, h.troubles, k.troubles) }

alike : (x y : Tally) → x ≡ y → Alike x y
alike x y is = record { sends = ap (λ (t : Tally). t.sends) is; free = ap (λ (t : Tally). t.free) is; own = ap (λ (t : Tally). t.own) is; asking = ap (λ (t : Tally). t.asking) is; yes = ap (λ (t : Tally). t.yes) is; troubles = ap (λ (t : Tally). t.troubles) is }

pub only_none : (n g : ℕ) → Alike (only_in n no_tally g) no_tally
only_none n g = alike (only_in n no_tally g) no_tally (by (nat_eq n g))
  where
    by : (b : Bool) → pick b no_tally ≡ no_tally
    by true = refl
    by false = refl

pub withdrawn_send : (a b c : GroupsView) (rs : List Receiving) (ss : List Sending) (i : ℕ) (s : Sending) (t : Tally) → i < length ss → s ≡ get_or ss i s
    → t ≡ send_tally rs s.group s.rows
    → Moves a b (sends_part rs ss) (sends_part rs (drop i ss)) → Moves b c (only_in s.group t) (only_in s.group no_tally) → Moves a c (sends_part rs ss) (sends_part rs (drop (i + 1) ss))
withdrawn_send a b c rs ss i s t lt is tally m n =
    let first : drop i ss ≡ s ∷ drop (i + 1) ss = drop_more ss i s lt ∙ ap (λ (x : Sending). x ∷ drop (i + 1) ss) (sym is) in
    less_next a b c (only_in s.group t) (only_in s.group no_tally) (sends_part rs ss) (sends_part rs (drop i ss)) (sends_part rs (drop (i + 1) ss)) (only_none s.group)
    (λ g. alike (sends_part rs (drop i ss) g) (plus (only_in s.group t g) (sends_part rs (drop (i + 1) ss) g)) (ap (λ (xs : List Sending). sends_part rs xs g) first ∙ ap (λ (x : Tally). plus (only_in s.group x g) (sends_part rs (drop (i + 1) ss) g)) (sym tally))) m n

pub withdrawn_receive : (a b c : GroupsView) (rs : List Receiving) (i : ℕ) (r : Receiving) (t : Tally) → i < length rs → r ≡ get_or rs i r → t ≡ receive_tally r.receiver.conditional
    → Moves a b (receives_part rs) (receives_part (drop i rs)) → Moves b c (only_in r.group t) (only_in r.group no_tally) → Moves a c (receives_part rs) (receives_part (drop (i + 1) rs))
withdrawn_receive a b c rs i r t lt is tally m n =
    let first : drop i rs ≡ r ∷ drop (i + 1) rs = drop_more rs i r lt ∙ ap (λ (x : Receiving). x ∷ drop (i + 1) rs) (sym is) in
    less_next a b c (only_in r.group t) (only_in r.group no_tally) (receives_part rs) (receives_part (drop i rs)) (receives_part (drop (i + 1) rs)) (only_none r.group)
    (λ g. alike (receives_part (drop i rs) g) (plus (only_in r.group t g) (receives_part (drop (i + 1) rs) g)) (ap (λ (xs : List Receiving). receives_part xs g) first ∙ ap (λ (x : Tally). plus (only_in r.group x g) (receives_part (drop (i + 1) rs) g)) (sym tally))) m n

-- One offer

pub one_sender : (p : ℕ) (s : SendOffer) (w : ℕ) → s.wire ≡ Some w → senders p (s ∷ []) ≡ sender p s w ∷ []
one_sender p s w is = ap (λ (o : Option ℕ). option_map_or (λ wire. sender p s wire ∷ []) o [] ++ []) is

module _ (says : Verdicts) (all : List Kept) (rs : List Receiving) (a b c : GroupsView) (s : Sending) where
  pub speaks : (less : ℕ → Tally) → Follows a b → SameTallies a b → SendKeyed b s → Follows b c → Moves b c less (send_part rs s) → s.rows ≡ flat_map (asked_in says s.sender s.group) all → Speaks says all rs a c less s
  speaks less f tallies key h moves rows = record {
    follows = follows_next f h;
    moves = moves_same a b c less (send_part rs s) tallies moves;
    keyed = send_keyed h s key;
    answered = rows;
  }

module _ (says : Verdicts) (all : List Kept) (rs : List Receiving) (a c : GroupsView) (less : ℕ → Tally) (p : ℕ) (offer : SendOffer) where
  pub offered_one : (w : ℕ) (s : Sending) → offer.wire ≡ Some w → s.sender ≡ sender p offer w → Speaks says all rs a c less s → Offered says all rs a c less p (offer ∷ []) (s ∷ [])
  offered_one w s wire same h = record {
    follows = h.follows;
    moves = λ g. let m = h.moves g in record {
      sends = omega (arith, m.sends);
      free = omega (arith, m.free);
      own = omega (arith, m.own);
      asking = omega (arith, m.asking);
      yes = omega (arith, m.yes);
      troubles = omega (arith, m.troubles);
    };
    keyed = All-cons (SendKeyed c) s [] h.keyed (All-nil (SendKeyed c));
    same = ap (λ (x : Sender). x ∷ []) same ∙ sym (one_sender p offer w wire);
    answered = All-cons (λ (s : Sending). s.rows ≡ flat_map (asked_in says s.sender s.group) all) s [] h.answered (All-nil (λ (s : Sending). s.rows ≡ flat_map (asked_in says s.sender s.group) all));
  }

  pub offered_nowhere : offer.wire ≡ None → Offered says all rs a a nothing p (offer ∷ []) []
  offered_nowhere none = record {
    follows = follows_same a;
    moves = moves_none a;
    keyed = All-nil (SendKeyed a);
    same = sym (ap (λ (o : Option ℕ). option_map_or (λ wire. sender p offer wire ∷ []) o [] ++ []) none);
    answered = All-nil (λ (s : Sending). s.rows ≡ flat_map (asked_in says s.sender s.group) all);
  }

-- A receive

module _ (a c : GroupsView) (less : ℕ → Tally) (p : ℕ) (offer : ReceiveOffer) where
  pub heard_one : (w : ℕ) (r : Receiving) → offer.wire ≡ Some w → r.receiver ≡ receiver p offer w → Listens a c less r → Heard a c less p (offer ∷ []) (r ∷ [])
  heard_one w r wire same h = record {
    follows = h.follows;
    moves = λ g. let m = h.moves g in record {
      sends = omega (arith, m.sends);
      free = omega (arith, m.free);
      own = omega (arith, m.own);
      asking = omega (arith, m.asking);
      yes = omega (arith, m.yes);
      troubles = omega (arith, m.troubles);
    };
    keyed = All-cons (ReceiveKeyed c) r [] h.keyed (All-nil (ReceiveKeyed c));
    same = ap (λ (x : Receiver). x ∷ []) same ∙ sym (ap (λ (o : Option ℕ). option_map_or (λ wire. receiver p offer wire ∷ []) o [] ++ []) wire);
  }

  pub heard_nowhere : offer.wire ≡ None → Heard a a nothing p (offer ∷ []) []
  heard_nowhere none = record {
    follows = follows_same a;
    moves = moves_none a;
    keyed = All-nil (ReceiveKeyed a);
    same = sym (ap (λ (o : Option ℕ). option_map_or (λ wire. receiver p offer wire ∷ []) o [] ++ []) none);
  }

-- where nothing asks
pub none_asked_in : (says : Verdicts) (s : Sender) (g : ℕ) (all : List Kept) → (total_of all g).asking ≡ 0 → flat_map (asked_in says s g) all ≡ []
none_asked_in says s g [] none = refl
none_asked_in says s g (e ∷ all) none = λ i. here i ++ none_asked_in says s g all (omega (arith, none)) i
  where
    none_of : (rs : List Receiving) → (receives_part rs g).asking ≡ 0 → asked says s g e.process rs ≡ []
    none_of [] nil = refl
    none_of (r ∷ rs) nil = by (nat_eq r.group g) r.receiver.conditional nil (none_of rs)
      where
        by : (b c : Bool) → (pick b (receive_tally c)).asking + (receives_part rs g).asking ≡ 0 → ((receives_part rs g).asking ≡ 0 → asked says s g e.process rs ≡ []) → (if b && c then row_of says s e.process r ∷ [] else []) ++ asked says s g e.process rs ≡ []
        by true true nil later = absurd (omega (arith, nil))
        by true false nil later = later (omega (arith, nil))
        by false c nil later = later (omega (arith, nil))

    here : asked_in says s g e ≡ []
    here = by (nat_eq e.process s.end.process)
      where
        by : (b : Bool) → (if b then [] else asked says s g e.process e.receives) ≡ []
        by true = refl
        by false = none_of e.receives (omega (arith, none))
