-- The four lists in file order, each behind the one before it, and zeros behind them are the data section.
use Rattle.sff_sections.proofs.Sections.{data_put}
use Rattle.sff_sections.specs.Sections.{read_in}
use Rattle.sff_sections.proofs.NewRead.put_data.Goals as goal

pub returns : goal.returns
returns c =
    let asked = c.requires in
    data_put _ (read_in c.args.self.now) _ asked.increments_len asked.qualities_len c.put_words.ensures c.put_bytes.ensures
    c.put_bytes-2.ensures c.put_bytes-3.ensures c.put_padding.ensures asked.bases_in_bounds
