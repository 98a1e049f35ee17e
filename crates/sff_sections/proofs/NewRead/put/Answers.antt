-- The data section stands behind the header section, whose length `up8` gave: together they are the read.
use Rattle.sff_sections.proofs.Sections.{header_section_lem, read_put}
use Rattle.sff_sections.specs.Sections.{read_in}
use Rattle.sff_sections.proofs.NewRead.put.Goals as goal

pub returns : goal.returns
returns c =
    let new = c.args.self.now in
    read_put _ _ (read_in new) _
    (rw (← header_section_lem new.name.now new.clips new.values.now new.increments.now new.bases.now new.qualities.now) at c.put_read_header.ensures)
    c.up8.ensures c.put_data.ensures c.requires.in_bounds
