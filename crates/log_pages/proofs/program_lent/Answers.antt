use Rattle.log_pages.proofs.program_lent.Goals as goal

pub returns : goal.returns
returns c = record { after = rw (c.store.ensures.after, c.page_tag-tag.ensures); stays = c.store.ensures.stays }
