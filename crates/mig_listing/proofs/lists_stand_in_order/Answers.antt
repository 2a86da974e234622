use Rattle.mig_listing.proofs.Orders.{before_order, FrontFirst-total, less_total}
use Rattle.mig_listing.proofs.lists_stand_in_order.Goals as goal

pub returns : goal.returns
returns c = record { order = before_order; total = FrontFirst-total less_total }
