use Rattle.tables.specs.Laying.{zeroed_front, slices_same}
use Rattle.tables.proofs.building.clear.Goals as goal

pub returns : goal.returns
returns c = slices_same
    (zeroed_front 128 _ _ c.requires.masks_long (c.fill.ensures.after (λ y e. e)))
    (zeroed_front 129 _ _ c.requires.starts_long (c.fill-2.ensures.after (λ y e. e)))
    (zeroed_front 128 _ _ c.requires.accepts_long (c.fill-3.ensures.after (λ y e. e)))
    (zeroed_front 8192 _ _ c.requires.edges_long (c.fill-4.ensures.after (λ y e. e)))
