-- What a monitor keeps, by its operator, and what it keeps behind the next point.
use Rattle.std.proofs.Common.{◌≡◌, sym, ap, ◌∙◌, ℕ, Bool, not, Option, Global}
use Rattle.std.specs.Prelude.{Box}
use Rattle.pz_watch.specs.declared.window.Window.{Window}
use Rattle.pz_watch.specs.declared.monitor.Monitor.{Monitor}
use Rattle.pz_watch.specs.declared.monitor.Monitor.TheVariants.{Not, And, Or, Before, Once, Always, Since, rolls-Not, rolls-And, rolls-Or, rolls-Before, rolls-Once, rolls-Always, rolls-Since}
use Rattle.pz_watch.specs.declared.monitor.Monitor.TheFolds.{fold-roll-Monitor}
use Rattle.pz_watch.specs.Points.{Point}
use Rattle.pz_watch.specs.devices.Memory.{Memory, at_negation, at_both, at_either, at_before, at_once, at_always, at_since, marked, renewed, told, later}
use Rattle.pz_watch.specs.devices.MonitorView.{memory_of, memory_step}

abbrev Part : Type 0
Part = Box Monitor Global

view_not : (p : Part) → memory_of (Not p) ≡ at_negation (memory_of p.value)
view_not p = ap memory_of (sym (rolls-Not p)) ∙ fold-roll-Monitor Memory memory_step _

view_and : (p q : Part) → memory_of (And p q) ≡ at_both (memory_of p.value) (memory_of q.value)
view_and p q = ap memory_of (sym (rolls-And p q)) ∙ fold-roll-Monitor Memory memory_step _

view_or : (p q : Part) → memory_of (Or p q) ≡ at_either (memory_of p.value) (memory_of q.value)
view_or p q = ap memory_of (sym (rolls-Or p q)) ∙ fold-roll-Monitor Memory memory_step _

view_before : (was : Bool) (p : Part) → memory_of (Before was p) ≡ at_before was (memory_of p.value)
view_before was p = ap memory_of (sym (rolls-Before was p)) ∙ fold-roll-Monitor Memory memory_step _

view_once : (w : Window) (p : Part) → memory_of (Once w p) ≡ at_once w.bound w.latest (memory_of p.value)
view_once w p = ap memory_of (sym (rolls-Once w p)) ∙ fold-roll-Monitor Memory memory_step _

view_always : (w : Window) (p : Part) → memory_of (Always w p) ≡ at_always w.bound w.latest (memory_of p.value)
view_always w p = ap memory_of (sym (rolls-Always w p)) ∙ fold-roll-Monitor Memory memory_step _

view_since : (w : Window) (p q : Part) → memory_of (Since w p q) ≡ at_since w.bound w.latest (memory_of p.value) (memory_of q.value)
view_since w p q = ap memory_of (sym (rolls-Since w p q)) ∙ fold-roll-Monitor Memory memory_step _

fed : (m : Monitor) (p q : Part) (x : Point) → m ≡ p.value → memory_of q.value ≡ later (memory_of m) x → memory_of q.value ≡ later (memory_of p.value) x
fed m p q x here e = e ∙ ap (λ (n : Monitor). later (memory_of n) x) here

answered : (m : Monitor) (p : Part) (x : Point) (b : Bool) → m ≡ p.value → b ≡ told (memory_of m) x → b ≡ told (memory_of p.value) x
answered m p x b here e = e ∙ ap (λ (n : Monitor). told (memory_of n) x) here

was_so : (self : Monitor) (n : Memory) (x : Point) → memory_of self ≡ n → later n x ≡ later (memory_of self) x
was_so self n x e = ap (λ (k : Memory). later k x) (sym e)

pub not_fed : (self m : Monitor) (p q : Part) (x : Point) → self ≡ Not p → m ≡ p.value → memory_of q.value ≡ later (memory_of m) x → memory_of (Not q) ≡ later (memory_of self) x
not_fed self m p q x is here e =
    view_not q
    ∙ ap at_negation (fed m p q x here e)
    ∙ was_so self (at_negation (memory_of p.value)) x (ap memory_of is ∙ view_not p)

pub and_fed : (self m n : Monitor) (p q r s : Part) (x : Point) → self ≡ And p r → m ≡ p.value → memory_of q.value ≡ later (memory_of m) x → n ≡ r.value → memory_of s.value ≡ later (memory_of n) x → memory_of (And q s) ≡ later (memory_of self) x
and_fed self m n p q r s x is here e there g =
    view_and q s
    ∙ ap (λ (k : Memory). at_both k (memory_of s.value)) (fed m p q x here e)
    ∙ ap (λ (k : Memory). at_both (later (memory_of p.value) x) k) (fed n r s x there g)
    ∙ was_so self (at_both (memory_of p.value) (memory_of r.value)) x (ap memory_of is ∙ view_and p r)

pub or_fed : (self m n : Monitor) (p q r s : Part) (x : Point) → self ≡ Or p r → m ≡ p.value → memory_of q.value ≡ later (memory_of m) x → n ≡ r.value → memory_of s.value ≡ later (memory_of n) x → memory_of (Or q s) ≡ later (memory_of self) x
or_fed self m n p q r s x is here e there g =
    view_or q s
    ∙ ap (λ (k : Memory). at_either k (memory_of s.value)) (fed m p q x here e)
    ∙ ap (λ (k : Memory). at_either (later (memory_of p.value) x) k) (fed n r s x there g)
    ∙ was_so self (at_either (memory_of p.value) (memory_of r.value)) x (ap memory_of is ∙ view_or p r)

pub before_fed : (self m : Monitor) (was now : Bool) (p q : Part) (x : Point) → self ≡ Before was p → m ≡ p.value → now ≡ told (memory_of m) x → memory_of q.value ≡ later (memory_of m) x → memory_of (Before now q) ≡ later (memory_of self) x
before_fed self m was now p q x is here a e =
    view_before now q
    ∙ ap (λ (k : Memory). at_before now k) (fed m p q x here e)
    ∙ ap (λ (b : Bool). at_before b (later (memory_of p.value) x)) (answered m p x now here a)
    ∙ was_so self (at_before was (memory_of p.value)) x (ap memory_of is ∙ view_before was p)

pub once_fed : (self m : Monitor) (w v : Window) (now : Bool) (p q : Part) (x : Point) → self ≡ Once w p → m ≡ p.value → now ≡ told (memory_of m) x → memory_of q.value ≡ later (memory_of m) x → v.bound ≡ w.bound → v.latest ≡ marked now x.clock w.latest → memory_of (Once v q) ≡ later (memory_of self) x
once_fed self m w v now p q x is here a e bound latest =
    view_once v q
    ∙ ap (λ (k : Memory). at_once v.bound v.latest k) (fed m p q x here e)
    ∙ ap (λ (b : Option ℕ). at_once b v.latest (later (memory_of p.value) x)) bound
    ∙ ap (λ (l : Option ℕ). at_once w.bound l (later (memory_of p.value) x)) (latest ∙ ap (λ (b : Bool). marked b x.clock w.latest) (answered m p x now here a))
    ∙ was_so self (at_once w.bound w.latest (memory_of p.value)) x (ap memory_of is ∙ view_once w p)

pub always_fed : (self m : Monitor) (w v : Window) (now : Bool) (p q : Part) (x : Point) → self ≡ Always w p → m ≡ p.value → now ≡ told (memory_of m) x → memory_of q.value ≡ later (memory_of m) x → v.bound ≡ w.bound → v.latest ≡ marked (not now) x.clock w.latest → memory_of (Always v q) ≡ later (memory_of self) x
always_fed self m w v now p q x is here a e bound latest =
    view_always v q
    ∙ ap (λ (k : Memory). at_always v.bound v.latest k) (fed m p q x here e)
    ∙ ap (λ (b : Option ℕ). at_always b v.latest (later (memory_of p.value) x)) bound
    ∙ ap (λ (l : Option ℕ). at_always w.bound l (later (memory_of p.value) x)) (latest ∙ ap (λ (b : Bool). marked (not b) x.clock w.latest) (answered m p x now here a))
    ∙ was_so self (at_always w.bound w.latest (memory_of p.value)) x (ap memory_of is ∙ view_always w p)

pub since_fed : (self m n : Monitor) (w v : Window) (kept met : Bool) (p q r s : Part) (x : Point) → self ≡ Since w p r → m ≡ p.value → kept ≡ told (memory_of m) x → memory_of q.value ≡ later (memory_of m) x → n ≡ r.value → met ≡ told (memory_of n) x → memory_of s.value ≡ later (memory_of n) x → v.bound ≡ w.bound → v.latest ≡ renewed kept met x.clock w.latest → memory_of (Since v q s) ≡ later (memory_of self) x
since_fed self m n w v kept met p q r s x is here a e there b g bound latest =
    view_since v q s
    ∙ ap (λ (k : Memory). at_since v.bound v.latest k (memory_of s.value)) (fed m p q x here e)
    ∙ ap (λ (k : Memory). at_since v.bound v.latest (later (memory_of p.value) x) k) (fed n r s x there g)
    ∙ ap (λ (d : Option ℕ). at_since d v.latest (later (memory_of p.value) x) (later (memory_of r.value) x)) bound
    ∙ ap
    (λ (l : Option ℕ). at_since w.bound l (later (memory_of p.value) x) (later (memory_of r.value) x))
    (latest
    ∙ ap (λ (k : Bool). renewed k met x.clock w.latest) (answered m p x kept here a)
    ∙ ap (λ (k : Bool). renewed (told (memory_of p.value) x) k x.clock w.latest) (answered n r x met there b))
    ∙ was_so self (at_since w.bound w.latest (memory_of p.value) (memory_of r.value)) x (ap memory_of is ∙ view_since w p r)
