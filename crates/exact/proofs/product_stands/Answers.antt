use Rattle.exact.proofs.Shown.{lengths_multiply, products_associate, totals_split}
use Rattle.exact.proofs.product_stands.Goals as goal

pub returns : goal.returns
returns c = record { length = lengths_multiply; grouping = products_associate; lists = totals_split }
