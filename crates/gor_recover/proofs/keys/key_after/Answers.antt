use Rattle.gor_recover.proofs.keys.key_after.Goals as goal

pub returns-in-Live : goal.returns-in-Live
returns-in-Live c = λ bodies front. let h = c.slot_after.ensures bodies front c.in-Live.uid c.in-Live.floor c.in-Live.name in rw c.in-Live.is h
