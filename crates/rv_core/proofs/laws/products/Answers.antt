-- The laws of products.
use Rattle.rv_core.proofs.ProductLaws.{product-high, product-mixed, product-unsigned}
use Rattle.rv_core.proofs.laws.products.Goals as goal

pub returns-clause-high : goal.returns-clause-high
returns-clause-high c = product-high

pub returns-clause-mixed : goal.returns-clause-mixed
returns-clause-mixed c = product-mixed

pub returns-clause-unsigned : goal.returns-clause-unsigned
returns-clause-unsigned c = product-unsigned
