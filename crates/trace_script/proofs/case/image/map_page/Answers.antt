-- A page that was mapped had nothing against it, and is mapped in both memories.
use Rattle.std.proofs.Common.{◌∙◌, ap, sym}
use Rattle.trace_pages.specs.FlatMemory.{FlatMemory, mapped}
use Rattle.trace_pages.proofs.Memories.{mapped_is}
use Rattle.trace_script.specs.Kept.{image_of}
use Rattle.trace_script.proofs.Images.{can_map}
use Rattle.trace_script.proofs.case.image.map_page.Goals as goal

pub map-requires-in-Ok-clause-free : goal.map-requires-in-Ok-clause-free
map-requires-in-Ok-clause-free g c =
    can_map c.args.memory.now (image_of c.args.image.now) c.args.page c.in-Ok.field-0 c.requires.in_force
    c.in-Ok.ensures.fault

pub returns-in-Ok-map-clause-in_force : goal.returns-in-Ok-map-clause-in_force
returns-in-Ok-map-clause-in_force g c =
    mapped_is c.args.memory.now c.map.new.self c.args.page c.in-Ok.ensures.ok
    ∙ ap (λ (m : FlatMemory). mapped m c.args.page) c.requires.in_force
    ∙ sym c.in-Ok-map.ensures
