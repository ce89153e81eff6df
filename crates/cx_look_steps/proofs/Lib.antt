mod CommentLemmas
mod RunLemmas
mod ScriptLemmas
