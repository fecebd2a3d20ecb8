mod UploadLaws
