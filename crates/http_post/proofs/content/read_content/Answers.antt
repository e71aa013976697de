use Rattle.http_post.proofs.Contents.{fault_in_data, fault_behind, bad_return, fault_in_end, bad_feed, whole_seen}
use Rattle.http_post.proofs.content.read_content.Goals as goal

-- src/content.rt:46:25
pub returns-in-Err-clause-fault : goal.returns-in-Err-clause-fault
returns-in-Err-clause-fault g c = fault_in_data _ _ _ _ c.requires.from _ c.in-Err.ensures.fault

-- src/content.rt:50:18
pub returns-in-Ok-byte_on-clause-fault : goal.returns-in-Ok-byte_on-clause-fault
returns-in-Ok-byte_on-clause-fault g c = bad_return _ _ _ _ c.requires.from _ _ c.in-Ok.ensures.kept c.in-Ok.ensures.full _ c.in-Ok-byte_on.ensures.byte c.in-Ok-byte_on.field-0-test.1

-- src/content.rt:51:25
pub returns-in-Err-byte_on-clause-fault : goal.returns-in-Err-byte_on-clause-fault
returns-in-Err-byte_on-clause-fault g c = fault_behind _ _ _ _ c.requires.from _ _ c.in-Ok.ensures.kept c.in-Ok.ensures.full _ c.in-Err-byte_on.ensures.fault

-- src/content.rt:31:1
pub returns-in-Ok-eq10-clause-whole : goal.returns-in-Ok-eq10-clause-whole
returns-in-Ok-eq10-clause-whole g c =
    whole_seen _ _ _ _ c.requires.from _ _ c.in-Ok.ensures.kept c.in-Ok.ensures.full _ c.in-Ok-eq13.ensures.byte c.in-Ok-eq13.field-0-test
    _ _ (λ raw k. c.in-Ok-eq13.ensures.kept raw (c.in-Ok.ensures.kept raw k)) c.in-Ok-eq13.ensures.full _ c.in-Ok-eq10.ensures.byte c.in-Ok-eq10.field-0-test

-- src/content.rt:31:1
pub returns-in-Ok-byte_on-2-clause-fault : goal.returns-in-Ok-byte_on-2-clause-fault
returns-in-Ok-byte_on-2-clause-fault g c =
    bad_feed _ _ _ _ c.requires.from _ _ c.in-Ok.ensures.kept c.in-Ok.ensures.full _ c.in-Ok-eq13.ensures.byte c.in-Ok-eq13.field-0-test
    _ _ (λ raw k. c.in-Ok-eq13.ensures.kept raw (c.in-Ok.ensures.kept raw k)) c.in-Ok-eq13.ensures.full _ c.in-Ok-byte_on-2.ensures.byte c.in-Ok-byte_on-2.field-0-test.1

-- src/content.rt:31:1
pub returns-in-Err-byte_on-2-clause-fault : goal.returns-in-Err-byte_on-2-clause-fault
returns-in-Err-byte_on-2-clause-fault g c =
    fault_in_end _ _ _ _ c.requires.from _ _ c.in-Ok.ensures.kept c.in-Ok.ensures.full _ c.in-Ok-eq13.ensures.byte c.in-Ok-eq13.field-0-test
    _ _ (λ raw k. c.in-Ok-eq13.ensures.kept raw (c.in-Ok.ensures.kept raw k)) c.in-Ok-eq13.ensures.full _ c.in-Err-byte_on-2.ensures.fault
