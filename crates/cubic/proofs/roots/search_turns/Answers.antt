-- `cubic::roots::search_turns` meets its contract. Assumes nothing.
use Rattle.std.proofs.Common.{sym, ◌∙◌}
use Rattle.cubic.proofs.CubicLaws.{search_none, search_one, search_ordered, search_turned}
use Rattle.cubic.proofs.roots.search_turns.Goals as goal

pub returns-in-None : goal.returns-in-None
returns-in-None c = c.search_on.ensures ∙ search_none _ _ _ c.in-None.is

pub returns-in-One : goal.returns-in-One
returns-in-One c = c.search_on-in-One.ensures ∙ search_one _ _ _ _ _ c.in-One.is c.requires c.search_on-start.ensures

pub returns-then-total_order : goal.returns-then-total_order
returns-then-total_order c =
    c.search_two.ensures ∙ search_ordered _ _ _ _ _ c.in-Two.is c.requires (sym c.total_order.ensures ∙ c.if-total_order.true)

pub returns-else-total_order : goal.returns-else-total_order
returns-else-total_order c =
    c.search_two-in-Two.ensures ∙ search_turned _ _ _ _ _ c.in-Two.is c.requires (sym c.total_order.ensures ∙ c.if-total_order.false)
