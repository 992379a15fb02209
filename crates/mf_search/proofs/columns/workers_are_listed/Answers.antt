use Rattle.mf_search.proofs.Listing.{put_in_list, nothing_held}
use Rattle.mf_search.proofs.columns.workers_are_listed.Goals as goal

pub returns-clause-put : goal.returns-clause-put
returns-clause-put c busy kept worker held v low high is = put_in_list busy kept worker held v low high is

pub returns-clause-idle : goal.returns-clause-idle
returns-clause-idle c kept v none = nothing_held kept none v
