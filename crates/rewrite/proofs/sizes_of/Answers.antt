use Rattle.rewrite.proofs.sizes_of.Goals as goal

pub returns : goal.returns
returns c = rw (c.byte_at-w.ensures, c.byte_at-r.ensures, c.number_at-b.ensures, c.number_at-c.ensures, c.byte_at-p.ensures, c.number_at-s.ensures)
