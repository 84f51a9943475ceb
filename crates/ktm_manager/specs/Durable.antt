-- The durable resource managers.
use Rattle.std.specs.Prelude.{List, filter, map}
use Rattle.ktm_base.specs.declared.id.Id.{Id}
use Rattle.ktm_world.specs.Enlistments.{Manager}
use Rattle.ktm_manager.specs.declared.managers.Listed.{Listed}

-- the Ids of the durable ones
abbrev pub durable_in : List Manager → List Id
durable_in managers = map (λ m. m.id) (filter (λ m. m.is_durable) managers)

-- the Ids of the durable ones, without their queues. No public clause cites this.
abbrev pub durable_listed : List Listed → List Id
durable_listed listed = map (λ x. x.id) (filter (λ x. x.is_durable) listed)
