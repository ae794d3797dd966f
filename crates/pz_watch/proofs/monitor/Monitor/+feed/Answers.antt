-- What is kept from then on is what the parts keep, under the same operator.
use Rattle.std.proofs.Common.{◌∙◌}
use Rattle.pz_watch.proofs.Views.{not_fed, and_fed, or_fed, before_fed, once_fed, always_fed, since_fed}
use Rattle.pz_watch.proofs.monitor.Monitor.+feed.Goals as goal

pub returns-in-Not-clause-later : goal.returns-in-Not-clause-later
returns-in-Not-clause-later t c = not_fed _ _ _ _ _ c.in-Not.is c.deref_mut.ensures.value c.feed.ensures.later

pub returns-then-one-clause-later : goal.returns-then-one-clause-later
returns-then-one-clause-later t c =
    and_fed
    _ _ _ _ _ _ _ _
    c.in-And.is
    c.deref_mut-in-And.ensures.value
    c.feed-one.ensures.later
    c.deref_mut-in-And-2.ensures.value
    c.feed-other.ensures.later

pub returns-else-one-clause-later : goal.returns-else-one-clause-later
returns-else-one-clause-later t c =
    and_fed
    _ _ _ _ _ _ _ _
    c.in-And.is
    c.deref_mut-in-And.ensures.value
    c.feed-one.ensures.later
    c.deref_mut-in-And-2.ensures.value
    c.feed-other.ensures.later

pub returns-then-left-clause-later : goal.returns-then-left-clause-later
returns-then-left-clause-later t c =
    or_fed
    _ _ _ _ _ _ _ _
    c.in-Or.is
    c.deref_mut-in-Or.ensures.value
    c.feed-left.ensures.later
    c.deref_mut-in-Or-2.ensures.value
    c.feed-right.ensures.later

pub returns-else-left-clause-later : goal.returns-else-left-clause-later
returns-else-left-clause-later t c =
    or_fed
    _ _ _ _ _ _ _ _
    c.in-Or.is
    c.deref_mut-in-Or.ensures.value
    c.feed-left.ensures.later
    c.deref_mut-in-Or-2.ensures.value
    c.feed-right.ensures.later

pub returns-in-Before-clause-later : goal.returns-in-Before-clause-later
returns-in-Before-clause-later t c =
    before_fed
    _ _ _ _ _ _ _
    c.in-Before.is
    c.deref_mut-in-Before.ensures.value
    (c.replace.ensures.after ∙ c.feed-now.ensures.told)
    c.feed-now.ensures.later

pub returns-in-Once-clause-later : goal.returns-in-Once-clause-later
returns-in-Once-clause-later t c =
    once_fed
    _ _ _ _ _ _ _ _
    c.in-Once.is
    c.deref_mut-in-Once.ensures.value
    c.feed-now-in-Once.ensures.told
    c.feed-now-in-Once.ensures.later
    c.mark.ensures.bound
    c.mark.ensures.latest

pub returns-in-Always-clause-later : goal.returns-in-Always-clause-later
returns-in-Always-clause-later t c =
    always_fed
    _ _ _ _ _ _ _ _
    c.in-Always.is
    c.deref_mut-in-Always.ensures.value
    c.feed-now-in-Always.ensures.told
    c.feed-now-in-Always.ensures.later
    c.mark-in-Always.ensures.bound
    c.mark-in-Always.ensures.latest

pub returns-in-Since-clause-later : goal.returns-in-Since-clause-later
returns-in-Since-clause-later t c =
    since_fed
    _ _ _ _ _ _ _ _ _ _ _ _
    c.in-Since.is
    c.deref_mut-in-Since.ensures.value
    c.feed-kept.ensures.told
    c.feed-kept.ensures.later
    c.deref_mut-in-Since-2.ensures.value
    c.feed-met.ensures.told
    c.feed-met.ensures.later
    c.renew.ensures.bound
    c.renew.ensures.latest
