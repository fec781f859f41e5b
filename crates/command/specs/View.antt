-- What the code's result of parsing means. Assumes nothing.
use Rattle.std.specs.Prelude.{Ok, Err, Result}
use Rattle.command.specs.declared.order.Order.{Order}
use Rattle.command.specs.declared.order.Order.TheVariants.{Select, Read, Update}
use Rattle.command.specs.declared.status.Status.{Status}
use Rattle.command.specs.declared.status.Status.TheVariants.{Normal}
use Rattle.command.specs.Orders.{Asked, answered, read, update}

-- what the code gives, with data as bytes: a command that is refused, and a SELECT, which does nothing, are answered by a status alone
abbrev pub asked : Result Order Status → Asked
asked (Err s) = answered s
asked (Ok Select) = answered Normal
asked (Ok (Read s)) = read s.start.at s.count
asked (Ok (Update u)) = update u.span.start.at u.data.now
